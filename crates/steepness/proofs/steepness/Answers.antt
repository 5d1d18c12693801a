-- Half the sum of the roots, over eight.
use mathlib.Core.Path.{◌≡◌, ap, ◌∙◌}
use mathlib.Core.List.{List, map}
use lib.Ieee.{Float, binary32, mul, div}
use Rattle.ieee.specs.Sqrt.{sqrt}
use Rattle.levels.specs.Levels.{summed}
use Rattle.steepness.specs.Steepness.{largest}
use Rattle.steepness.specs.Steepness.{steepness}
use Rattle.steepness.proofs.Constants.{half_is, eight_is}
use Rattle.steepness.proofs.steepness.Goals as goal

pub returns : goal.returns
unfolding steepness
returns c =
    let e : c.add_roots.result ≡ summed (map (sqrt binary32) (largest c.args.gradients.now))
    = c.add_roots.ensures ∙ ap (λ (l : List Float). summed (map (sqrt binary32) l)) c.largest.ensures in
    λ i. div binary32 (mul binary32 (half_is i) (e i)) (eight_is i)
