-- The exact sizes of specs/Rounding, a fraction or its square root, among the fractions: two fractions around a size are in order, it stays where it is at another denominator, and in parts of 1 / d it has
-- a whole part (`part`).
use mathlib.Core.Path.{◌≡◌, refl, sym}
use mathlib.Core.Logic.{◌⊎◌, inl, inr}
use Prim.Native.Nat.{ℕ, suc, ◌*◌, ◌/◌, ◌≤◌, ◌<◌}
use native.Mathlib.Nat.{le_trans, le_of_eq, le_of_lt, lt_of_not-le, not-le_of_lt, mul_assoc, mul_comm, mul_left_comm, mul_right_comm, mul-le-mul, mul-le-mul_right, le_of_mul-le-mul_right, mul-pos, le-div_iff_mul-le, div-lt_iff_lt-mul}
use native.Mathlib.Omega.{arith}
use Rattle.ieee.specs.Sqrt.{root}
use Rattle.ieee.specs.Rounding.{Exact, fraction, root_of, AtLeast, AtMost}
use Rattle.ieee.proofs.Naturals.{le_or_lt, square_le}
use Rattle.ieee.proofs.Roots.{root_is}

-- ---- the denominator is above 0
abbrev pub Proper : Exact → Type 0
Proper (fraction num den) = 0 < den
Proper (root_of num den) = 0 < den

pub least_down : (X : Exact) (d : ℕ) {a b : ℕ} → a ≤ b → AtLeast X b d → AtLeast X a d
least_down (fraction num den) d h l = le_trans (mul-le-mul_right den h) l
least_down (root_of num den) d h l = le_trans (mul-le-mul_right den (mul-le-mul h h)) l

pub most_up : (X : Exact) (d : ℕ) {a b : ℕ} → a ≤ b → AtMost X a d → AtMost X b d
most_up (fraction num den) d h l = le_trans l (mul-le-mul_right den h)
most_up (root_of num den) d h l = le_trans l (mul-le-mul_right den (mul-le-mul h h))

-- what is at most the size is at most what is at least the size
pub meet : (X : Exact) (d : ℕ) {a b : ℕ} → Proper X → AtLeast X a d → AtMost X b d → a ≤ b
meet (fraction num den) d D l m = le_of_mul-le-mul_right (le_trans l m) D
meet (root_of num den) d {a} {b} D l m = square_le a b (le_of_mul-le-mul_right (le_trans l m) D)

pub least? : (X : Exact) (n d : ℕ) → AtLeast X n d ⊎ (AtLeast X n d → ⊥)
least? (fraction num den) n d = elim (le_or_lt (n * den) (num * d)) [ inl h ↦ inl h | inr h ↦ inr (not-le_of_lt h) ]
least? (root_of num den) n d = elim (le_or_lt (n * n * den) (num * (d * d))) [ inl h ↦ inl h | inr h ↦ inr (not-le_of_lt h) ]

pub most? : (X : Exact) (n d : ℕ) → AtMost X n d ⊎ (AtMost X n d → ⊥)
most? (fraction num den) n d = elim (le_or_lt (num * d) (n * den)) [ inl h ↦ inl h | inr h ↦ inr (not-le_of_lt h) ]
most? (root_of num den) n d = elim (le_or_lt (num * (d * d)) (n * n * den)) [ inl h ↦ inl h | inr h ↦ inr (not-le_of_lt h) ]

pub not_least : (X : Exact) (n d : ℕ) → (AtLeast X n d → ⊥) → AtMost X n d
not_least (fraction num den) n d h = le_of_lt (lt_of_not-le h)
not_least (root_of num den) n d h = le_of_lt (lt_of_not-le h)

pub not_most : (X : Exact) (n d : ℕ) → (AtMost X n d → ⊥) → AtLeast X n d
not_most (fraction num den) n d h = le_of_lt (lt_of_not-le h)
not_most (root_of num den) n d h = le_of_lt (lt_of_not-le h)

-- ---- a fraction at another denominator
module _ (n d c : ℕ) where
  one_down : (den : ℕ) → n * c * den ≡ n * den * c
  one_down den = mul_right_comm n c den

  one_up : (num : ℕ) → num * (d * c) ≡ num * d * c
  one_up num = sym (mul_assoc num d c)

  two_down : (den : ℕ) → n * c * (n * c) * den ≡ n * n * den * (c * c)
  two_down den = simp (mul_assoc, mul_comm, mul_left_comm)

  two_up : (num : ℕ) → num * (d * c * (d * c)) ≡ num * (d * d) * (c * c)
  two_up num = simp (mul_assoc, mul_comm, mul_left_comm)

  pub least_scale : (X : Exact) → AtLeast X n d → AtLeast X (n * c) (d * c)
  least_scale (fraction num den) h = rw (one_down den, one_up num) (mul-le-mul_right c h)
  least_scale (root_of num den) h = rw (two_down den, two_up num) (mul-le-mul_right (c * c) h)

  pub most_scale : (X : Exact) → AtMost X n d → AtMost X (n * c) (d * c)
  most_scale (fraction num den) h = rw (one_down den, one_up num) (mul-le-mul_right c h)
  most_scale (root_of num den) h = rw (two_down den, two_up num) (mul-le-mul_right (c * c) h)

  module _ (C : 0 < c) where
    pub least_unscale : (X : Exact) → AtLeast X (n * c) (d * c) → AtLeast X n d
    least_unscale (fraction num den) h = le_of_mul-le-mul_right (rw (one_down den, one_up num) at h) C
    least_unscale (root_of num den) h = le_of_mul-le-mul_right (rw (two_down den, two_up num) at h) (mul-pos C C)

    pub most_unscale : (X : Exact) → AtMost X (n * c) (d * c) → AtMost X n d
    most_unscale (fraction num den) h = le_of_mul-le-mul_right (rw (one_down den, one_up num) at h) C
    most_unscale (root_of num den) h = le_of_mul-le-mul_right (rw (two_down den, two_up num) at h) (mul-pos C C)

-- ---- the whole part, in parts of 1 / d
pub part : (X : Exact) (d : ℕ) → Proper X → (j : ℕ) × AtLeast X j d × (AtLeast X (suc j) d → ⊥)
part (fraction num den) d D = (num * d / den, (le-div_iff_mul-le D).0 (le_of_eq refl), not-le_of_lt ((div-lt_iff_lt-mul D).0 (omega arith)))
part (root_of num den) d D =
    let n = num * (d * d) in
    (root (n / den), (le-div_iff_mul-le D).0 (root_is (n / den)).0, not-le_of_lt ((div-lt_iff_lt-mul D).0 (root_is (n / den)).1))
