-- `cut s num den`, a fraction cut to a whole number, downward or upward: it is the one whole number n with n ≤ num / den < n + 1, or n - 1 < num / den ≤ n (`Between`). So it depends on the fraction's
-- size alone (`cut_same`).
use mathlib.Core.Path.{◌≡◌, sym, ap, ◌∙◌, subst}
use mathlib.Core.Bool.{Bool, true, false}
use Prim.Native.Nat.{ℕ, suc, ◌+◌, ◌-◌, ◌*◌, ◌/◌, ◌%◌, ◌≤◌, ◌<◌}
use native.Mathlib.Nat.{le_trans, le_of_eq, le_of_suc-le-suc, le_antisymm, lt_of_le_of_lt, lt_of_lt_of_le, mul-one, mul_comm, mul_right_comm, add-mul, suc-mul, add-zero, mul-le-mul_left, mul-le-mul_right, mul-lt-mul_of_pos_right, le_of_mul-le-mul_right, lt_of_mul-lt-mul_right, div-mul-le_self, div-lt_iff_lt-mul, div-add-mod', mod-lt}
use native.Mathlib.Omega.{arith}
use Rattle.ieee.specs.Floor.{cut}

abbrev pub Between : Bool → ℕ → ℕ → ℕ → Type 0
Between false num den n = (n * den ≤ num) × (num < suc n * den)
Between true num den n = (num ≤ n * den) × (n * den < num + den)

pub cut_between : (s : Bool) (num den : ℕ) → 0 < den → Between s num den (cut s num den)
cut_between false num den D = subst (λ (a : ℕ). (a / den * den ≤ num) × (num < suc (a / den) * den)) (sym (add-zero num)) (div-mul-le_self num den, (div-lt_iff_lt-mul D).0 (next (num / den)))
  where
    next : (q : ℕ) → q < suc q
    next q = omega arith
cut_between true num den D =
    let a = num + (den - 1) in
    go (a / den * den) (a % den) den num D (div-add-mod' a den) (mod-lt a D)
  where
    go : (x r d n : ℕ) → 0 < d → x + r ≡ n + (d - 1) → r < d → (n ≤ x) × (x < n + d)
    go x r d n D e h = (omega arith, omega arith)

-- ---- there is one such n
between_le : (s : Bool) (num den n k : ℕ) → Between s num den n → Between s num den k → n ≤ k
between_le false num den n k a b = le_of_suc-le-suc (lt_of_mul-lt-mul_right den (lt_of_le_of_lt a.0 b.1))
between_le true num den n k a b = le_of_suc-le-suc (lt_of_mul-lt-mul_right den (lt_of_lt_of_le (go (n * den) (k * den) num den a.1 b.0) (le_of_eq (sym (suc-mul k den)))))
  where
    go : (x y c d : ℕ) → x < c + d → c ≤ y → x < y + d
    go x y c d h l = omega arith

between_same : (s : Bool) (a b c d n : ℕ) → 0 < b → 0 < d → a * d ≡ c * b → Between s a b n → Between s c d n
between_same false a b c d n B D e h = (
  le_of_mul-le-mul_right (le_trans (le_of_eq (mul_right_comm n d b)) (le_trans (mul-le-mul_right d h.0) (le_of_eq e))) B,
  lt_of_mul-lt-mul_right b (lt_of_le_of_lt (le_of_eq (sym e)) (lt_of_lt_of_le (mul-lt-mul_of_pos_right h.1 D) (le_of_eq (mul_right_comm (suc n) b d)))),
)
between_same true a b c d n B D e h = (
  le_of_mul-le-mul_right (le_trans (le_of_eq (sym e)) (le_trans (mul-le-mul_right d h.0) (le_of_eq (mul_right_comm n b d)))) B,
  lt_of_mul-lt-mul_right b
      (lt_of_le_of_lt (le_of_eq (mul_right_comm n d b)) (lt_of_lt_of_le (mul-lt-mul_of_pos_right h.1 D) (le_of_eq (add-mul a b d ∙ ap (λ (x : ℕ). x + b * d) e ∙ ap (λ (x : ℕ). c * b + x) (mul_comm b d) ∙ sym (add-mul c d b))))),
)

pub cut_same : (s : Bool) (a b c d : ℕ) → 0 < b → 0 < d → a * d ≡ c * b → cut s a b ≡ cut s c d
cut_same s a b c d B D e =
    let n = between_same s a b c d (cut s a b) B D e (cut_between s a b B) in
    let k = cut_between s c d D in
    le_antisymm (between_le s c d (cut s a b) (cut s c d) n k) (between_le s c d (cut s c d) (cut s a b) k n)

-- ---- and it is at most num
pub cut_le : (s : Bool) (num den : ℕ) → 0 < den → cut s num den ≤ num
cut_le s num den D = go s (cut s num den) (cut_between s num den D)
  where
    wide : num ≤ num * den
    wide = le_trans (le_of_eq (sym (mul-one num))) (mul-le-mul_left num D)

    go : (s : Bool) (n : ℕ) → Between s num den n → n ≤ num
    go false n b = le_of_mul-le-mul_right (le_trans b.0 wide) D
    go true n b = le_of_suc-le-suc (lt_of_mul-lt-mul_right den (lt_of_lt_of_le (more (n * den) num (num * den) den b.1 wide) (le_of_eq (sym (suc-mul num den)))))
      where
        more : (x c y d : ℕ) → x < c + d → c ≤ y → x < y + d
        more x c y d h l = omega arith
