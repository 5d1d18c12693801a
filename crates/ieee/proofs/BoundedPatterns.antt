-- Of two floats that are not negative, the larger has the larger pattern; so a bounded one's pattern is at most its bound's.
use mathlib.Core.Path.{◌≡◌, sym, ap, ◌∙◌, subst}
use mathlib.Core.Logic.{inl, inr}
use mathlib.Core.Bool.{Bool, false}
use Prim.Native.Nat.{ℕ, suc, ◌+◌, ◌-◌, ◌*◌, ◌/◌, ◌^◌, ◌≤◌, ◌<◌}
use native.Mathlib.Nat.{le_trans, le_of_eq, lt_of_le_of_lt, eq-or-lt_of_le, mul-one, mul_right_comm, mul-le-mul_right, le_of_mul-le-mul_right, le-div_iff_mul-le}
use native.Mathlib.Omega.{arith}
use lib.Dec.{T, lit<}
use lib.Pow.{pow-add, pow_pos}
use lib.Ieee.{Float, nan, inf, fin, Format, prec, low, down, size, round, fits, to_bits}
use lib.Ieee.Digits.{size-lt, size-le, size_reaches}
use lib.Ieee.Fits.{down_pos, kept-lt, two, two-le_pos}
use lib.Ieee.Exact.{HasValue}
use lib.Ieee.Nearest.{div_mono}
use Rattle.ieee.proofs.Values.{rescale, value_negative}
use Rattle.ieee.proofs.Patterns.{to_bits_value}
use Rattle.ieee.proofs.Grid.{on_grid}
use Rattle.ieee.proofs.Bounded.{Bounded, HoldsWhole, bounded_finite, bounded_negative, whole_value}

-- ---- the pattern of a units, for a format of p digits
abbrev pattern : ℕ → ℕ → ℕ
pattern p a = 0 + (size a - p) * 2 ^ (p - 1) + a / 2 ^ (size a - p)

module _ (p a b : ℕ) (P : 0 < p) (h : a ≤ b) where
  abbrev k : ℕ
  k = size a - p

  abbrev l : ℕ
  l = size b - p

  fewer : k ≤ l
  fewer = go (size a) (size b) p (size-le a (size b) (lt_of_le_of_lt h (size-lt b)))
    where
      go : (x y p : ℕ) → x ≤ y → x - p ≤ y - p
      go x y p h = omega arith

  same_drop : k ≡ l → pattern p a ≤ pattern p b
  same_drop e = subst (λ (j : ℕ). 0 + j * 2 ^ (p - 1) + a / 2 ^ j ≤ pattern p b) (sym e) (go (l * 2 ^ (p - 1)) (a / 2 ^ l) (b / 2 ^ l) (div_mono a (2 ^ l) b (2 ^ l) (pow_pos l) (pow_pos l) (mul-le-mul_right (2 ^ l) h)))
    where
      go : (x y z : ℕ) → y ≤ z → 0 + x + y ≤ 0 + x + z
      go x y z h = omega arith

  less_drop : k < l → pattern p a ≤ pattern p b
  less_drop g =
      go (2 ^ (p - 1)) (a / 2 ^ k) (b / 2 ^ l) (2 ^ p) k l (kept-lt p a)
      ((le-div_iff_mul-le (pow_pos l)).1 (le_trans (le_of_eq (sym (pow-add 2 (p - 1) l))) (size_reaches b (p - 1 + l) (all_in_use (size b) p P g))))
      (double p P) (mul-le-mul_right (2 ^ (p - 1)) g)
    where
      all_in_use : (z p : ℕ) → 0 < p → k < z - p → p - 1 + (z - p) < z
      all_in_use z p P h = omega arith

      back : (p : ℕ) → 0 < p → p ≡ p - 1 + 1
      back p P = omega arith

      double : (p : ℕ) → 0 < p → 2 ^ p ≡ 2 ^ (p - 1) * 2
      double p P = ap (λ (x : ℕ). 2 ^ x) (back p P) ∙ pow-add 2 (p - 1) 1

      go : (h x y t k l : ℕ) → x < t → h ≤ y → t ≡ h * 2 → suc k * h ≤ l * h → 0 + k * h + x ≤ 0 + l * h + y
      go h x y t k l a b c d = omega arith

  pattern_mono : pattern p a ≤ pattern p b
  pattern_mono = elim (eq-or-lt_of_le fewer) [ inl e ↦ same_drop e | inr g ↦ less_drop g ]

-- ---- a float of the format, bounded by n
module _ (f : Format) where
  sizes : (x y : Float) (a b : ℕ) → a ≤ b → HasValue x false a (2 ^ low f) → HasValue y false b (2 ^ low f) → to_bits f x ≤ to_bits f y
  sizes x y a b h v w =
      subst (λ (n : ℕ). n ≤ to_bits f y) (sym (to_bits_value f x false a v))
      (subst (λ (n : ℕ). pattern (prec f) a ≤ n) (sym (to_bits_value f y false b w)) (pattern_mono (prec f) a b (two-le_pos (prec f) (two f)) h))

  size_most : (x : Float) (a n : ℕ) → HasValue x false a (2 ^ low f) → Bounded x false n → a ≤ n * 2 ^ low f
  size_most nan a n v p = absurd v
  size_most (inf t) a n v p = absurd v
  size_most (fin t m e) a n v p = le_of_mul-le-mul_right (le_trans (le_of_eq (sym v.1)) (le_trans (mul-le-mul_right (2 ^ low f) p.1) (le_of_eq (mul_right_comm n (down e) (2 ^ low f))))) (down_pos e)

  pub bounded_bits : (x : Float) (n : ℕ) → HoldsWhole f n → T (fits f x) → Bounded x false n → to_bits f x ≤ to_bits f (round f false n 1)
  bounded_bits x n H F p =
      let g = on_grid f x F (bounded_finite x false n p) in
      let a = g.size in
      let v : HasValue x false a (2 ^ low f) = subst (λ (b : Bool). HasValue x b a (2 ^ low f)) (sym (value_negative x g.sign a (2 ^ low f) g.value) ∙ bounded_negative x false n p) g.value in
      sizes x (round f false n 1) a (n * 2 ^ low f) (size_most x a n v p) v
      (rescale (round f false n 1) false n 1 (n * 2 ^ low f) (2 ^ low f) (lit< tt) (mul-one (n * 2 ^ low f)) (whole_value f false n H))
