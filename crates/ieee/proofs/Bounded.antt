-- A float of a known sign whose size is at most a whole number (`Bounded`), and the whole numbers that a format holds (`HoldsWhole`).
use mathlib.Core.Path.{◌≡◌, refl, sym, ap, ◌∙◌}
use mathlib.Core.Bool.{Bool, false}
use Prim.Native.Nat.{ℕ, suc, ◌+◌, ◌*◌, ◌^◌, ◌≤◌, ◌<◌}
use native.Mathlib.Nat.{le_trans, le_of_eq, lt_of_le_of_lt, le_of_mul-le-mul_right, mul-le-mul_right, mul-one, mul_assoc, mul_right_comm}
use native.Mathlib.Omega.{arith}
use lib.Dec.{T, lit<, lit≤}
use lib.Pow.{pow-add, pow-lt}
use lib.Ieee.{Float, nan, inf, fin, Format, binary32, binary64, prec, emax, low, up, down, round}
use lib.Ieee.Exact.{HasValue, round_exact}
use Rattle.ieee.specs.Order.{finite, negative}
use Rattle.ieee.specs.Numbers.{plus_zero}

-- x is finite, has the sign s, and its size is at most n: no NaN, no infinity and, where s is false, no minus zero
abbrev pub Bounded : Float → Bool → ℕ → Type 0
Bounded nan s n = ⊥
Bounded (inf t) s n = ⊥
Bounded (fin t m e) s n = (t ≡ s) × (m * up e ≤ n * down e)

pub bounded_finite : (x : Float) (s : Bool) (n : ℕ) → Bounded x s n → T (finite x)
unfolding finite
bounded_finite nan s n p = p
bounded_finite (inf t) s n p = p
bounded_finite (fin t m e) s n p = tt

pub bounded_negative : (x : Float) (s : Bool) (n : ℕ) → Bounded x s n → negative x ≡ s
unfolding negative
bounded_negative nan s n p = absurd p
bounded_negative (inf t) s n p = absurd p
bounded_negative (fin t m e) s n p = p.0

pub bounded_up : (x : Float) (s : Bool) (a b : ℕ) → a ≤ b → Bounded x s a → Bounded x s b
bounded_up nan s a b h p = p
bounded_up (inf t) s a b h p = p
bounded_up (fin t m e) s a b h p = (p.0, le_trans p.1 (mul-le-mul_right (down e) h))

-- by a size a / l
pub bounded_by : (x : Float) (s : Bool) (a l n : ℕ) → 0 < l → HasValue x s a l → a ≤ n * l → Bounded x s n
bounded_by nan s a l n L v h = v
bounded_by (inf t) s a l n L v h = v
bounded_by (fin t m e) s a l n L v h = (
  v.0,
  le_of_mul-le-mul_right (le_trans (le_of_eq v.1) (le_trans (mul-le-mul_right (down e) h) (le_of_eq (mul_right_comm n l (down e))))) L,
)

pub plus_zero_bounded : (n : ℕ) → Bounded plus_zero false n
plus_zero_bounded n = (refl, omega arith)

-- the format f holds the whole number n, q * 2 ^ j
pub record HoldsWhole (f : Format) (n : ℕ) : Type 0 where
  pub q : ℕ
  pub j : ℕ
  pub few : q < 2 ^ prec f
  pub is : n ≡ q * 2 ^ j
  pub small : n ≤ 2 ^ emax f

pub holds_whole : (f : Format) (n q j : ℕ) → q < 2 ^ prec f → n ≡ q * 2 ^ j → n ≤ 2 ^ 100 → HoldsWhole f n
holds_whole f n q j a b c = record { q = q; j = j; few = a; is = b; small = le_trans c (far f) }
  where
    far : (f : Format) → 2 ^ 100 ≤ 2 ^ emax f
    far binary32 = lit≤ tt
    far binary64 = lit≤ tt

-- n as a float of the format is n
module _ (f : Format) (s : Bool) (n : ℕ) (H : HoldsWhole f n) where
  pub whole_value : HasValue (round f s n 1) s n 1
  whole_value =
      round_exact f s n 1 H.q (H.j + low f) (lit< tt) H.few
      (lt_of_le_of_lt (le_of_eq (sym in_units)) (lt_of_le_of_lt (mul-le-mul_right (2 ^ low f) H.small) under))
      (in_units ∙ sym (mul-one (H.q * 2 ^ (H.j + low f))))
    where
      in_units : n * 2 ^ low f ≡ H.q * 2 ^ (H.j + low f)
      in_units =
          ap (λ (x : ℕ). x * 2 ^ low f) H.is ∙ mul_assoc H.q (2 ^ H.j) (2 ^ low f)
          ∙ ap (λ (x : ℕ). H.q * x) (sym (pow-add 2 H.j (low f)))

      next : (l e : ℕ) → e + l < l + suc e
      next l e = omega arith

      under : 2 ^ emax f * 2 ^ low f < 2 ^ (low f + suc (emax f))
      under = lt_of_le_of_lt (le_of_eq (sym (pow-add 2 (emax f) (low f)))) (pow-lt (next (low f) (emax f)))
