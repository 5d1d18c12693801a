-- The greatest whole number that is not above a float: IEEE 754-2019, section 5.9, roundToIntegralTowardNegative.
use Rattle.std.specs.Prelude.{ℕ, ◌+◌, ◌-◌, ◌*◌, ◌/◌, ◌≡◌, Bool, cond, T, Float}
use Rattle.std.specs.Float.{nan, inf, fin, Format}
use Rattle.std.specs.Float.Ieee.{up, down, round, le, fits}
use Rattle.std.specs.Float.Ieee.Exact.{HasValue}
use Rattle.ieee.specs.Order.{negative}

-- the size of the greatest whole number not above num / den, or, where s is true, not above -(num / den): num / den down, or up
abbrev pub cut : Bool → ℕ → ℕ → ℕ
cut s num den = (num + cond s (den - 1) 0) / den

-- The result is exact: `round` rounds nothing.
unfoldable pub floor : Format → Float → Float
unfolding round
floor f nan = nan
floor f (inf s) = inf s
floor f (fin s m e) = round f s (cut s (m * up e) (down e)) 1

-- x is a whole number: n or -n
abbrev pub Whole : Float → Type 0
Whole x = (s : Bool) × (n : ℕ) × HasValue x s n 1

-- r is what x is rounded to: a value of the format, the greatest whole number that is at most x, with x's sign
pub record RoundTowardNegative (f : Format) (x r : Float) : Type 0 where
  pub held : T (fits f r)
  pub whole : Whole r
  pub below : T (le r x)
  pub greatest : (y : Float) → Whole y → T (le y x) → T (le y r)
  pub sign : negative r ≡ negative x
