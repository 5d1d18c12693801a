-- The ranges of floats, by the number that each one is: m * 2 ^ e.
use Rattle.std.specs.Prelude.{ℕ, ◌*◌, Bool, false, not, ◌&&◌, ◌||◌, List, leb, eqb, Float}
use Rattle.std.specs.Float.{nan, inf, fin}
use Rattle.std.specs.Float.Ieee.{up, down, is_nan}
use Rattle.refine.specs.declared.PositionCovariance.{PositionCovariance}
use Rattle.ranges.specs.Arith.{at}

-- of a magnitude of at most n
unfoldable pub within : ℕ → Float → Bool
within n nan = false
within n (inf s) = false
within n (fin s m e) = leb (m * up e) (n * down e)

-- from 0 to n; minus zero is 0
unfoldable pub up_to : ℕ → Float → Bool
up_to n nan = false
up_to n (inf s) = false
up_to n (fin s m e) = (not s || eqb m 0) && leb (m * up e) (n * down e)

-- every entry within n
abbrev pub all_within : ℕ → PositionCovariance → Bool
all_within n c = (within n c.xx && within n c.xy) && within n c.yy

-- both within n
abbrev pub both_within : ℕ → List Float → Bool
both_within n v = within n (at v 0) && within n (at v 1)

-- sigma: within 1,000, or a NaN
abbrev pub sigma_range : Float → Bool
sigma_range x = is_nan x || within 1000 x
