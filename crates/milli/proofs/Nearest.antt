-- Thousandths are the nearest whole number, halves going up, and no other number is.
use mathlib.Core.Path.{◌≡◌, refl, sym, ap, ◌∙◌, subst}
use mathlib.Core.Logic.{◌⊎◌, inl, inr}
use mathlib.Core.Bool.{Bool, true, false, cond, true≢false}
use Prim.Native.Nat.{ℕ, ◌+◌, ◌-◌, ◌*◌, ◌^◌, ◌≤◌, ◌<◌, min}
use native.Mathlib.Nat.{le-div_iff_mul-le, div-lt_iff_lt-mul, le_refl, le_trans, le_of_eq, le_of_lt, le_antisymm, lt_irrefl, eq-or-lt_of_le, mul-le-mul_right}
use native.Mathlib.Omega.{arith}
use lib.Dec.{T}
use lib.Ieee.{Float, nan, inf, fin, up, down}
use lib.Ieee.Fits.{down_pos}
use Rattle.ieee.specs.Order.{finite, negative}
use Rattle.ieee.proofs.Naturals.{le_or_lt}
use Rattle.milli.specs.Thousandths.{thousandths, milli_of}
use Rattle.milli.specs.Nearest.{apart, distance, Nearest, NearestTo}

-- ---- in units of c: v is 1,000 a, and m and n are whole numbers times c

-- an n that is lower by c at least is no nearer than m, one that is higher by c at least is farther
no_nearer_below : (v m n c : ℕ) → m * 2 ≤ v * 2 + c → n + c ≤ m → apart v m ≤ apart v n
no_nearer_below v m n c h l = omega arith

farther_above : (v m n c : ℕ) → 0 < c → v * 2 < m * 2 + c → m + c ≤ n → apart v m < apart v n
farther_above v m n c C h l = omega arith

pub next_multiple : (n k c : ℕ) → n < k → n * c + c ≤ k * c
next_multiple n k c h = le_trans (le_of_eq (one n c)) (mul-le-mul_right {m = n + 1} {n = k} c (omega arith))
  where
    one : (n c : ℕ) → n * c + c ≡ (n + 1) * c
    one n c = omega arith

module _ (a c : ℕ) (C : 0 < c) where
  abbrev t : ℕ
  t = thousandths a c

  -- above 1,000 a / c by a half at most, below it by less
  pub half_above : t * c * 2 ≤ a * 1000 * 2 + c
  half_above = omega (arith, (le-div_iff_mul-le {k = c * 2} (omega arith)).0 (le_refl t))

  half_below : a * 1000 * 2 < t * c * 2 + c
  half_below = omega (arith, (div-lt_iff_lt-mul {k = c * 2} (omega arith)).0 (one_more t))
    where
      one_more : (n : ℕ) → n < n + 1
      one_more n = omega arith

  farther : (k : ℕ) → t < k → distance a c t < distance a c k
  farther k h = farther_above (a * 1000) (t * c) (k * c) c C half_below (next_multiple t k c h)

  pub thousandths_nearest : Nearest a c t
  thousandths_nearest = record { no_nearer = λ k. near k (le_or_lt k t); larger_of_two = λ k e. most k e (le_or_lt k t) }
    where
      below : (k : ℕ) → (k ≡ t) ⊎ (k < t) → distance a c t ≤ distance a c k
      below k (inl e) = le_of_eq (ap (distance a c) (sym e))
      below k (inr h) = no_nearer_below (a * 1000) (t * c) (k * c) c half_above (next_multiple k t c h)

      near : (k : ℕ) → (k ≤ t) ⊎ (t < k) → distance a c t ≤ distance a c k
      near k (inl h) = below k (eq-or-lt_of_le h)
      near k (inr h) = le_of_lt (farther k h)

      most : (k : ℕ) → distance a c k ≡ distance a c t → (k ≤ t) ⊎ (t < k) → k ≤ t
      most k e (inl h) = h
      most k e (inr h) = absurd (lt_irrefl (distance a c t) (subst (λ (d : ℕ). distance a c t < d) e (farther k h)))

-- two that are nearest are one
pub one_nearest : (a c n k : ℕ) → Nearest a c n → Nearest a c k → n ≡ k
one_nearest a c n k p q =
    let e = le_antisymm (p.no_nearer k) (q.no_nearer n) in
    le_antisymm (q.larger_of_two n e) (p.larger_of_two k (sym e))

-- ---- a float's

-- whatever is nearest to 1,000 times a float is its milli, as far as 32 bits hold it
pub only_nearest : (x : Float) (n : ℕ) → NearestTo x n → milli_of x ≡ min n (2 ^ 32 - 1)
unfolding milli_of
only_nearest nan n p = absurd p
only_nearest (inf s) n p = absurd p
only_nearest (fin s m e) n p =
    ap (λ (b : Bool). cond b 0 (min (thousandths (m * up e) (down e)) (2 ^ 32 - 1))) p.0
    ∙ ap (λ (k : ℕ). min k (2 ^ 32 - 1)) (one_nearest (m * up e) (down e) (thousandths (m * up e) (down e)) n (thousandths_nearest (m * up e) (down e) (down_pos e)) p.1)

-- and its milli is the nearest, where it is below the largest
pub is_nearest : (x : Float) → T (finite x) → negative x ≡ false → milli_of x < 2 ^ 32 - 1 → NearestTo x (milli_of x)
unfolding milli_of finite negative
is_nearest nan f p h = absurd f
is_nearest (inf s) f p h = absurd f
is_nearest (fin true m e) f p h = absurd (true≢false p)
is_nearest (fin false m e) f p h =
    (refl, subst (Nearest (m * up e) (down e)) (below_cap (thousandths (m * up e) (down e)) h) (thousandths_nearest (m * up e) (down e) (down_pos e)))
  where
    below_cap : (t : ℕ) → min t (2 ^ 32 - 1) < 2 ^ 32 - 1 → t ≡ min t (2 ^ 32 - 1)
    below_cap t l = omega arith
