-- Facts on whole numbers: one of two orders holds, squares and powers keep the order, what `compare` and `closest` say.
use mathlib.Core.Path.{◌≡◌, refl, sym, ap, ◌∙◌}
use mathlib.Core.Logic.{◌⊎◌, inl, inr}
use mathlib.Core.Bool.{Bool, true, false, not, true≢false, false≢true}
use Prim.Native.Nat.{ℕ, suc, ◌+◌, ◌-◌, ◌*◌, ◌/◌, ◌%◌, ◌^◌, ◌≤◌, ◌<◌, compare, Ordering}
use native.Mathlib.Nat.{le_of_lt, le_of_suc-le-suc, lt_of_lt_of_le, lt_of_not-le, not-le_of_lt, lt_irrefl, eq-or-lt_of_le, mul-le-mul, mul-le-mul_right, mul-lt-mul_of_pos_right, add-mul, zero-mul, two-mul}
use native.Mathlib.Numerals.{add-one}
use native.Mathlib.Omega.{arith}
use lib.Dec.{T, is_le, compare_is_eq, leb, leb→le, nleb→lt}
use lib.Pow.{pow-add, pow_mono, pow-lt}
use lib.Ieee.Nearest.{closest}
use borrow.Author.Tests.{le-leb, lt-leb, eq-eqb, ne_eqb}

-- ---- orders
pub le_or_lt : (a b : ℕ) → (a ≤ b) ⊎ (b < a)
le_or_lt a b = go (leb a b) (leb→le a b) (nleb→lt a b)
  where
    go : (t : Bool) → (T t → a ≤ b) → (T (not t) → b < a) → (a ≤ b) ⊎ (b < a)
    go true h k = inl (h tt)
    go false h k = inr (k tt)

pub trichotomy : (a b : ℕ) → (a < b) ⊎ ((a ≡ b) ⊎ (b < a))
trichotomy a b = elim (le_or_lt b a) [ inl h ↦ inr (elim (eq-or-lt_of_le h) [ inl e ↦ inl (sym e) | inr l ↦ inr l ]) | inr h ↦ inl h ]

pub square_lt : (a b : ℕ) → a * a < b * b → a < b
square_lt a b h = lt_of_not-le (λ (g : b ≤ a). lt_irrefl (a * a) (lt_of_lt_of_le h (mul-le-mul g g)))

pub square_le : (a b : ℕ) → a * a ≤ b * b → a ≤ b
square_le a b h = le_of_suc-le-suc (lt_of_not-le (λ (g : suc b ≤ a). not-le_of_lt (more g) h))
  where
    more : suc b ≤ a → b * b < a * a
    more g = lt_of_lt_of_le {m = suc b * suc b} (omega arith) (mul-le-mul g g)

pub pow_lt_back : (i p : ℕ) → 2 ^ i < 2 ^ p → i < p
pow_lt_back i p h = lt_of_not-le (λ (g : p ≤ i). lt_irrefl (2 ^ i) (lt_of_lt_of_le h (pow_mono g)))

pub pow_le_back : (i p : ℕ) → 2 ^ i ≤ 2 ^ p → i ≤ p
pow_le_back i p h = le_of_suc-le-suc (lt_of_not-le (λ (g : suc p ≤ i). lt_irrefl (2 ^ p) (lt_of_lt_of_le (pow-lt g) h)))

pub pow_double : (k : ℕ) → 2 ^ (2 * k) ≡ 2 ^ k * 2 ^ k
pow_double k = ap (λ (x : ℕ). 2 ^ x) (two-mul k) ∙ pow-add 2 k k

pub sub_mul : (n t c : ℕ) → (n - t) * c ≡ n * c - t * c
sub_mul n t c = elim (le_or_lt t n) [ inl h ↦ some (n - t) t n h refl | inr l ↦ none l (mul-le-mul_right c (le_of_lt l)) ]
  where
    some : (w t n : ℕ) → t ≤ n → w ≡ n - t → w * c ≡ n * c - t * c
    some w t n h e =
        let is : n ≡ w + t = omega arith in
        let all : n * c ≡ w * c + t * c = ap (λ (x : ℕ). x * c) is ∙ add-mul w t c in
        omega arith

    none : n < t → n * c ≤ t * c → (n - t) * c ≡ n * c - t * c
    none l h =
        let z : n - t ≡ 0 = omega arith in
        let y : (n - t) * c ≡ 0 = ap (λ (x : ℕ). x * c) z ∙ zero-mul c in
        omega arith

-- ---- `compare`
pub compare_lt : (a b : ℕ) → a < b → compare a b ≡ Ordering.lt
compare_lt a b h = go (compare a b) (le-leb a b (le_of_lt h)) (ne_eqb a b (λ e. ne a b h e))
  where
    ne : (a b : ℕ) → a < b → a ≡ b → ⊥
    ne a b h e = omega arith

    go : (o : Ordering) → is_le o ≡ true → compare_is_eq o ≡ false → o ≡ Ordering.lt
    go Ordering.lt u v = refl
    go Ordering.eq u v = absurd (true≢false v)
    go Ordering.gt u v = absurd (false≢true u)

pub compare_gt : (a b : ℕ) → b < a → compare a b ≡ Ordering.gt
compare_gt a b h = go (compare a b) (lt-leb a b h)
  where
    go : (o : Ordering) → is_le o ≡ false → o ≡ Ordering.gt
    go Ordering.lt u = absurd (true≢false u)
    go Ordering.eq u = absurd (true≢false u)
    go Ordering.gt u = refl

pub compare_eq : (a b : ℕ) → a ≡ b → compare a b ≡ Ordering.eq
compare_eq a b h = go (compare a b) (eq-eqb a b h)
  where
    go : (o : Ordering) → compare_is_eq o ≡ true → o ≡ Ordering.eq
    go Ordering.lt u = absurd (false≢true u)
    go Ordering.eq u = refl
    go Ordering.gt u = absurd (false≢true u)

pub compare_scale : (a b u : ℕ) → 0 < u → compare (a * u) (b * u) ≡ compare a b
compare_scale a b u U = elim (trichotomy a b) [
  | inl l ↦ compare_lt (a * u) (b * u) (mul-lt-mul_of_pos_right l U) ∙ sym (compare_lt a b l)
  | inr (inl e) ↦ compare_eq (a * u) (b * u) (ap (λ (x : ℕ). x * u) e) ∙ sym (compare_eq a b e)
  | inr (inr g) ↦ compare_gt (a * u) (b * u) (mul-lt-mul_of_pos_right g U) ∙ sym (compare_gt a b g)
]

-- ---- `closest`, by how twice the remainder compares with the divisor
module _ (a p : ℕ) where
  pub closest_lt : a % p * 2 < p → closest a p ≡ a / p
  closest_lt h = rw (compare_lt (a % p * 2) p h)

  pub closest_eq : a % p * 2 ≡ p → closest a p ≡ a / p + a / p % 2
  closest_eq h = rw (compare_eq (a % p * 2) p h)

  pub closest_gt : p ≤ a % p * 2 → (a % p * 2 ≡ p → ⊥) → closest a p ≡ a / p + 1
  closest_gt h n = rw (compare_gt (a % p * 2) p (more (a % p * 2) p h n)) (sym (add-one (a / p)))
    where
      more : (x y : ℕ) → y ≤ x → (x ≡ y → ⊥) → y < x
      more x y h n = omega arith
