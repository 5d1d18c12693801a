-- A bounded float of a format is one from 0 to its bound (`from_zero_to`): it compares as its size does, and so does its pattern.
use mathlib.Core.Path.{refl}
use mathlib.Core.Bool.{false}
use Prim.Native.Nat.{ℕ, ◌*◌}
use native.Mathlib.Nat.{le_trans, le_of_eq, mul-one, zero-mul}
use native.Mathlib.Omega.{arith}
use lib.Dec.{T, lit<}
use lib.IntN.{pos}
use lib.Ieee.{Float, nan, inf, fin, Format, up, down, round, of_int, le, fits}
use lib.Ieee.Fits.{down_pos}
use lib.Ieee.Order.{le_of_values}
use Rattle.ieee.specs.Numbers.{plus_zero}
use Rattle.ieee.specs.FromZero.{FromZeroTo}
use Rattle.ieee.proofs.Bounded.{Bounded, HoldsWhole, bounded_finite, bounded_negative, whole_value}
use Rattle.ieee.proofs.BoundedPatterns.{bounded_bits}

module _ (f : Format) (n : ℕ) (H : HoldsWhole f n) where
  least : (x : Float) → Bounded x false n → T (le plus_zero x)
  least nan p = absurd p
  least (inf t) p = absurd p
  least (fin t m e) p =
      le_of_values plus_zero (fin t m e) 0 1 (m * up e) (down e) (lit< tt) (down_pos e) (refl, refl) (p.0, refl)
      (le_trans (le_of_eq (zero-mul (down e))) (omega arith))

  most : (x : Float) → Bounded x false n → T (le x (of_int f (pos n)))
  unfolding of_int
  most nan p = absurd p
  most (inf t) p = absurd p
  most (fin t m e) p =
      le_of_values (fin t m e) (round f false n 1) (m * up e) (down e) n 1 (down_pos e) (lit< tt) (p.0, refl) (whole_value f false n H)
      (le_trans (le_of_eq (mul-one (m * up e))) p.1)

  pub from_zero_to : (x : Float) → T (fits f x) → Bounded x false n → FromZeroTo f n x
  unfolding of_int
  from_zero_to x F p = record {
    fits = F;
    finite = bounded_finite x false n p;
    plus = bounded_negative x false n p;
    least = least x p;
    most = most x p;
    bits = bounded_bits f x n H F p;
  }
