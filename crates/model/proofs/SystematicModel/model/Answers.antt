-- Each way out has its reason, by the tests before it, and the last one the model. Assumes nothing.
use mathlib.Core.Path.{◌≡◌, sym, ap, ◌∙◌}
use mathlib.Core.List.{List}
use lib.Ieee.{Float, of_bits}
use Rattle.std.proofs.Common.{rules}
use Rattle.std.specs.Prelude.{Option}
use Rattle.laws.proofs.Refusing.{and}
use Rattle.refine.specs.declared.PositionCovariance.{PositionCovariance}
use Rattle.model.specs.declared.GainResidual.{GainResidual}
use Rattle.model.specs.declared.SystematicModel.{SystematicModel}
use Rattle.model.specs.Knots.{both_at}
use Rattle.model.specs.Systematic.{systematic}
use Rattle.model.specs.Model.{systematic_at}
use Rattle.model.proofs.Refusals.{given, model_knots, model_12, model_13, model_0}
use Rattle.model.proofs.SystematicModel.model.Goals as goal

-- the systematic part, at what the knots give
part : (s : SystematicModel) (u : List Float) (w : Option Float) (grid : Float) {k : GainResidual} {p : PositionCovariance}
    → k ≡ both_at s w → p ≡ systematic k.gain k.residual s.floor u grid → p ≡ systematic_at s u w grid
part s u w grid e h = h ∙ ap (λ (r : GainResidual). systematic r.gain r.residual s.floor u grid) e

pub returns-in_err-knots : goal.returns-in_err-knots
returns-in_err-knots c = let a = c.args in let e = model_knots a.self a.noise a.offset a.width a.grid _ c.in_err-knots.ensures.judged in search (rules, e)

pub returns-then-not-all_within-both_within : goal.returns-then-not-all_within-both_within
returns-then-not-all_within-both_within c =
    model_12 _ _ _ _ _ c.in_ok-knots.ensures.judged
    (and (and (sym c.all_within.ensures) (sym c.both_within.ensures)) (sym c.up_to.ensures) ∙ c.if-not-all_within-both_within.true)

pub returns-in_err-systematic : goal.returns-in_err-systematic
returns-in_err-systematic c =
    let a = c.args in let t = c.in_ok-knots.ensures in let k = c.at_knots-at.ensures in
    let p = part a.self a.offset a.width a.grid (given a.self a.width t.judged t.widths t.gains t.residuals t.counted k.gain k.residual) c.systematic_of.ensures in
    let e = model_13 a.self a.noise a.offset a.width a.grid t.judged
    (and (and (sym c.all_within.ensures) (sym c.both_within.ensures)) (sym c.up_to.ensures) ∙ c.if-not-all_within-both_within.false)
    _ p _ c.in_err-systematic.ensures in
    search (rules, e)

pub returns : goal.returns
unfolding of_bits
returns c =
    let a = c.args in let t = c.in_ok-knots.ensures in let k = c.at_knots-at.ensures in
    model_0 a.self a.noise a.offset a.width a.grid t.judged
    (and (and (sym c.all_within.ensures) (sym c.both_within.ensures)) (sym c.up_to.ensures) ∙ c.if-not-all_within-both_within.false)
    _ (part a.self a.offset a.width a.grid (given a.self a.width t.judged t.widths t.gains t.residuals t.counted k.gain k.residual) c.systematic_of.ensures)
    _ c.in_ok-systematic.ensures
