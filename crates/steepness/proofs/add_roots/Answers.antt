use mathlib.Core.Path.{sym, ap, ◌∙◌}
use native.Mathlib.Omega.{arith}
use lib.Ieee.{Float, binary32}
use mathlib.Core.List.{foldl}
use lib.Ieee.{add}
use Rattle.ieee.specs.Sqrt.{sqrt}
use Rattle.levels.proofs.Folds.{fold_end, foldl_map}
use Rattle.levels.proofs.Constants.{zero_is}
use Rattle.ieee.specs.Numbers.{f32_of}
use Rattle.steepness.proofs.add_roots.Goals as goal

pub returns : goal.returns
returns c =
    let l = c.args.top.now in
    fold_end c.loop-x.invariant (omega arith) ∙ ap (λ (z : Float). foldl (λ a x. add binary32 a (sqrt binary32 x)) z l) zero_is ∙ sym (foldl_map (add binary32) (sqrt binary32) (f32_of 0) l)
