-- What refuses the knots, or what they give at the width. Assumes nothing.
use Rattle.std.proofs.Common.{rules}
use Rattle.model.proofs.Refusals.{given, at_refused, at_found}
use Rattle.model.proofs.SystematicModel.at.Goals as goal

pub returns-in_err-knots : goal.returns-in_err-knots
returns-in_err-knots c = let e = at_refused c.args.self c.args.width _ c.in_err-knots.ensures.judged in search (rules, e)

pub returns : goal.returns
returns c =
    let t = c.in_ok-knots.ensures in let k = c.at_knots.ensures in
    at_found _ _ t.judged (given c.args.self c.args.width t.judged t.widths t.gains t.residuals t.counted k.gain k.residual)
