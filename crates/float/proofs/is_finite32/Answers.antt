-- std's `is_finite` says the same.
use mathlib.Core.Path.{◌≡◌, refl, ◌∙◌}
use lib.Ieee.{Float, nan, inf, fin}
use Rattle.std.specs.Float.{float_is_finite}
use Rattle.ieee.specs.Order.{finite}
use Rattle.float.proofs.is_finite32.Goals as goal

same : (x : Float) → float_is_finite x ≡ finite x
unfolding float_is_finite finite
same nan = refl
same (inf s) = refl
same (fin s m e) = refl

pub returns : goal.returns
returns c = c.is_finite.ensures.value ∙ same c.args.x
