-- A NaN is refused; without one, three sums by one loop, judged together. Assumes nothing.
use mathlib.Core.Path.{sym, ap, ◌∙◌}
use Rattle.refine.specs.Covariance.{judged}
use Rattle.gram.proofs.Sums.{sums_are}
use Rattle.gram.proofs.Nans.{refused}
use Rattle.gram.proofs.gram.Goals as goal

pub returns-then-any_nan : goal.returns-then-any_nan
returns-then-any_nan c = refused _ _ c.requires (sym c.any_nan.ensures ∙ c.if-any_nan.true)

pub returns : goal.returns
returns c =
    c.finite.ensures
    ∙ ap judged
    (sums_are c.args.gx.now c.args.gy.now _ c.requires c.partials-p.ensures c.with_rest-p0.ensures
    c.joined-xx.ensures c.joined-xy.ensures c.joined-yy.ensures c.new.ensures)
