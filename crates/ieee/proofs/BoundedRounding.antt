-- A rounded result is at most what the exact one is at most, where that is a whole number n of the format: if the rounded one were
-- above n, the exact one would be no nearer to n than to it, and so above n.
use mathlib.Core.Path.{sym, ◌∙◌, subst}
use mathlib.Core.Logic.{inl, inr}
use mathlib.Core.Bool.{Bool}
use Prim.Native.Nat.{ℕ, suc, ◌+◌, ◌-◌, ◌*◌, ◌^◌, ◌≤◌, ◌<◌}
use native.Mathlib.Nat.{le_trans, le_of_eq, not-le_of_lt, le_of_mul-le-mul_right, mul-le-mul_right, mul_comm, mul-one, one-mul}
use native.Mathlib.Omega.{arith}
use lib.Dec.{T, lit<}
use lib.Pow.{pow_pos}
use lib.Ieee.{Float, Format, binary32, binary64, prec, emax, low, round}
use lib.Ieee.Fits.{round-fits}
use lib.Ieee.Exact.{HasValue}
use Rattle.ieee.specs.Order.{finite}
use Rattle.ieee.specs.Rounding.{Exact, AtMost, Overflows, RoundTiesToEven}
use Rattle.ieee.proofs.Naturals.{le_or_lt}
use Rattle.ieee.proofs.Values.{value_negative, rescale}
use Rattle.ieee.proofs.ExactSizes.{Proper, meet, most_scale}
use Rattle.ieee.proofs.Distance.{middle_same}
use Rattle.ieee.proofs.Grid.{Placed, on_grid}
use Rattle.ieee.proofs.Bounded.{Bounded, HoldsWhole, bounded_by, whole_value}

emax_pos : (f : Format) → 0 < 2 ^ emax f
emax_pos f = pow_pos (emax f)

more : (f : Format) → 2 ^ prec f < 2 ^ suc (prec f) - 1
more binary32 = lit< tt
more binary64 = lit< tt

module _ (f : Format) (s : Bool) (X : Exact) (P : Proper X) (r : Float) (R : RoundTiesToEven f s X r) (n : ℕ) (H : HoldsWhole f n) (M : AtMost X n 1) where
  abbrev y : Float
  y = round f s n 1

  abbrev L : ℕ
  L = 2 ^ low f

  -- n / 1 at another denominator
  most_at : (c : ℕ) → AtMost X (n * c) c
  most_at c = subst (λ (d : ℕ). AtMost X (n * c) d) (one-mul c) (most_scale n 1 c X M)

  not_over : Overflows f X → ⊥
  not_over h =
      not-le_of_lt (more f)
      (le_of_mul-le-mul_right
      (le_trans (le_of_eq (mul_comm (2 ^ suc (prec f) - 1) (2 ^ emax f)))
      (le_trans (meet X (2 ^ prec f) P h (most_at (2 ^ prec f)))
      (le_trans (mul-le-mul_right (2 ^ prec f) H.small) (le_of_eq (mul_comm (2 ^ emax f) (2 ^ prec f))))))
      (emax_pos f))

  is_finite : T (finite r)
  is_finite = R.under not_over

  p : Placed f r
  p = on_grid f r R.held is_finite

  abbrev Z : ℕ
  Z = p.size

  value : HasValue r s Z L
  value = subst (λ (b : Bool). HasValue r b Z L) (sym (value_negative r p.sign Z L p.value) ∙ R.sign) p.value

  y_value : HasValue y s (n * L) L
  y_value = rescale y s n 1 (n * L) L (lit< tt) (mul-one (n * L)) (whole_value f s n H)

  size_most : Z ≤ n * L
  size_most = elim (le_or_lt Z (n * L)) [
    | inl h ↦ h
    | inr h ↦
        absurd (no Z n L h
        (meet X (L * 2) P ((middle_same s X P L (pow_pos (low f)) y r (n * L) Z y_value (R.nearest is_finite y (round-fits f s n 1)) value).1 h) (most_at (L * 2))))
  ]
    where
      no : (z n l : ℕ) → n * l < z → z + n * l ≤ n * (l * 2) → ⊥
      no z n l h g = omega arith

  pub rounded_bounded : Bounded r s n
  rounded_bounded = bounded_by r s Z L n (pow_pos (low f)) value size_most
