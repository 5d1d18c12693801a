-- The kit's `of_int`, Rust's `n as f32` and `n as f64`, is IEEE 754-2019's convertFromInt (section 5.4.1): the whole number is rounded
-- by roundTiesToEven (`from_int_rounds`), and nothing else is what that asks (`from_int_only`). Zero is plus zero (`from_int_zero`).
use mathlib.Core.Path.{◌≡◌, refl}
use mathlib.Core.Bool.{Bool, true, false}
use Prim.Native.Nat.{suc}
use lib.Dec.{lit<}
use lib.IntN.{ℤ, pos, negsuc, nat_abs}
use lib.Ieee.{Float, Format, binary32, binary64, of_int}
use Rattle.ieee.specs.Numbers.{plus_zero}
use Rattle.ieee.specs.Rounding.{fraction, RoundTiesToEven}
use Rattle.ieee.proofs.ConvertFormat.{round_rounds, round_only}

-- whether z is below zero
abbrev pub below_zero : ℤ → Bool
below_zero (pos n) = false
below_zero (negsuc n) = true

module _ (f : Format) where
  pub from_int_rounds : (z : ℤ) → RoundTiesToEven f (below_zero z) (fraction (nat_abs z) 1) (of_int f z)
  unfolding of_int
  from_int_rounds (pos n) = round_rounds f n 1 (lit< tt) false
  from_int_rounds (negsuc n) = round_rounds f (suc n) 1 (lit< tt) true

  pub from_int_only : (z : ℤ) (y : Float) → RoundTiesToEven f (below_zero z) (fraction (nat_abs z) 1) y → y ≡ of_int f z
  unfolding of_int
  from_int_only (pos n) y A = round_only f n 1 (lit< tt) false y A
  from_int_only (negsuc n) y A = round_only f (suc n) 1 (lit< tt) true y A

pub from_int_zero : (f : Format) → of_int f (pos 0) ≡ plus_zero
unfolding of_int
from_int_zero binary32 = refl
from_int_zero binary64 = refl
