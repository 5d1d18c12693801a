-- A value of a format from zero to a whole number: what a reader may expect of a figure that is never a NaN.
use Rattle.std.specs.Prelude.{◌≡◌, false, ℕ, ◌≤◌, T, pos, Float}
use Rattle.std.specs.Float.Ieee as Ieee
use Rattle.std.specs.Float.{Format}
use Rattle.std.specs.Float.Ieee.{le, of_int, to_bits}
use Rattle.ieee.specs.Order as Order
use Rattle.ieee.specs.Numbers.{plus_zero}

pub record FromZeroTo (f : Format) (n : ℕ) (x : Float) : Type 0 where
  pub fits : T (Ieee.fits f x)
  -- no NaN and no infinity
  pub finite : T (Order.finite x)
  -- neither negative nor minus zero
  pub plus : Order.negative x ≡ false
  -- 0 ≤ x ≤ n, as the machine compares
  pub least : T (le plus_zero x)
  pub most : T (le x (of_int f (pos n)))
  -- its pattern is at most n's
  pub bits : to_bits f x ≤ to_bits f (of_int f (pos n))
