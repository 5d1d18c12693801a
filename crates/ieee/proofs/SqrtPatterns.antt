-- `sqrt` of a number above zero, as patterns: the root has all of the format's digits, so it is the whole number nearest to the root of an N of twice as many (`sqrt_is`), and that is what its pattern ends in
-- (`sqrt_pattern`). Then the N that sqrt64 and sqrt32 make of the 53 digits of an f64.
use mathlib.Core.Path.{◌≡◌, refl, sym, ap, ◌∙◌}
use mathlib.Core.Logic.{◌⊎◌, inl, inr}
use mathlib.Core.Bool.{true, false, true≢false}
use Prim.Native.Nat.{ℕ, zero, suc, ◌+◌, ◌-◌, ◌*◌, ◌/◌, ◌%◌, ◌^◌, ◌≤◌, ◌<◌, min, compare, Ordering}
use native.Mathlib.Nat.{le_trans, le_of_suc-le-suc, lt_of_lt_of_le, lt_of_le_of_lt, mul_assoc, mul_comm, mul_left_comm, mul_right_comm, mul-le-mul_right, mul-lt-mul_of_pos_right, mul-div_cancel, mul-pos, eq_of_mul-eq-mul_right, mul-one, zero-mul}
use native.Mathlib.Omega.{arith}
use lib.Dec.{lit<}
use lib.Pow.{pow-add, pow_pos}
use lib.IntN.{ℤ}
use lib.Ieee.{Float, nan, inf, fin, Format, binary32, binary64, prec, low, hid, ones, up, down, size, nearest, units, to_bits}
use lib.Ieee.Fits.{down_pos, nearest-le}
use lib.Ieee.Nearest.{nearest-ge}
use lib.Ieee.Exact.{HasValue}
use Rattle.ieee.specs.Sqrt.{root, halfway, nearest_root, round_root, sqrt}
use Rattle.ieee.proofs.Naturals.{square_lt, pow_double, compare_scale}
use Rattle.ieee.proofs.Units.{units_fits, units_plain}
use Rattle.ieee.proofs.Patterns.{drop_is, units_bits}
use Rattle.ieee.proofs.Reading.{Pattern, pattern}
use Rattle.ieee.proofs.Roots.{root_is}

-- ---- a value num / den that is N * 4 ^ k units squared, where N's root has all of the format's digits
module _ (f : Format) (num den N k : ℕ) (D : 0 < den) (is : num * 2 ^ (2 * low f) ≡ N * 2 ^ (2 * k) * den) (lo : hid f * hid f ≤ N) (hi : N < 2 ^ prec f * 2 ^ prec f) where
  abbrev n : ℕ
  n = num * 2 ^ (2 * low f)

  abbrev M : ℕ
  M = N * 2 ^ (2 * k)

  squares : (x : ℕ) → x * 2 ^ k * (x * 2 ^ k) ≡ x * x * 2 ^ (2 * k)
  squares x = rw (pow_double k) (simp (mul_assoc, mul_left_comm))

  whole : n / den ≡ M
  whole = ap (λ (x : ℕ). x / den) is ∙ mul-div_cancel M D

  upper : root M < 2 ^ (prec f + k)
  upper = square_lt (root M) (2 ^ (prec f + k)) (lt_of_le_of_lt (root_is M).0 (rw (pow-add 2 (prec f) k, squares (2 ^ prec f)) (mul-lt-mul_of_pos_right hi (pow_pos (2 * k)))))

  lower : 2 ^ (prec f + k) ≤ 2 * root M
  lower =
      let g : hid f * 2 ^ k ≤ root M = le_of_suc-le-suc (square_lt (hid f * 2 ^ k) (suc (root M)) (lt_of_le_of_lt (rw (squares (hid f)) (mul-le-mul_right (2 ^ (2 * k)) lo)) (root_is M).1)) in
      go f (2 ^ k) (2 ^ (prec f + k)) (root M) (pow-add 2 (prec f) k) g
    where
      go : (f : Format) (x y r : ℕ) → y ≡ 2 ^ prec f * x → hid f * x ≤ r → y ≤ 2 * r
      go binary32 x y r e h = omega arith
      go binary64 x y r e h = omega arith

  drops : size (root (n / den)) - prec f ≡ k
  drops = rw whole (drop_is (prec f) k (root M) upper (inr lower))

  abbrev u : ℕ
  u = den * 2 ^ (2 * k)

  units_of : n ≡ N * u
  units_of = is ∙ mul_assoc N (2 ^ (2 * k)) den ∙ ap (λ (x : ℕ). N * x) (mul_comm (2 ^ (2 * k)) den)

  halved : halfway n u (root (n / u)) ≡ nearest_root N
  unfolding nearest_root
  halved =
      let U : 0 < u = mul-pos D (pow_pos (2 * k)) in
      let e : n / u ≡ N = ap (λ (x : ℕ). x / u) units_of ∙ mul-div_cancel N U in
      let r = root N in
      ap (λ (x : ℕ). halfway n u (root x)) e
      ∙ ap (λ (o : Ordering). nearest r o) (ap (λ (x : ℕ). compare (4 * x) ((2 * r + 1) * (2 * r + 1) * u)) units_of ∙ ap (λ (x : ℕ). compare x ((2 * r + 1) * (2 * r + 1) * u)) (sym (mul_assoc 4 N u)) ∙ compare_scale (4 * N) ((2 * r + 1) * (2 * r + 1)) u U ∙ ap (λ (x : ℕ). compare (4 * N) x) (sym (mul-one ((2 * r + 1) * (2 * r + 1)))))

  round_root_is : round_root f num den ≡ units f false (nearest_root N) k
  unfolding round_root
  round_root_is = ap (λ (j : ℕ). units f false (halfway n (den * 2 ^ (2 * j)) (root (n / (den * 2 ^ (2 * j))))) j) drops ∙ ap (λ (x : ℕ). units f false x k) halved

-- ---- a positive finite x, by its value A / C
no_zero : (e : ℤ) (A C : ℕ) → 0 < A → 0 * up e * C ≡ A * down e → ⊥
no_zero e A C a h = go (A * down e) (mul-pos a (down_pos e)) (0 * up e * C) h (zero (up e) C)
  where
    zero : (x y : ℕ) → 0 * x * y ≡ 0
    zero x y = ap (λ (z : ℕ). z * y) (zero-mul x) ∙ zero-mul y

    go : (x : ℕ) → 0 < x → (y : ℕ) → y ≡ x → y ≡ 0 → ⊥
    go x p y a b = omega arith

module _ (f : Format) (A C N k : ℕ) (a : 0 < A) (c : 0 < C) (is : A * 2 ^ (2 * low f) ≡ N * 2 ^ (2 * k) * C) (lo : hid f * hid f ≤ N) (hi : N < 2 ^ prec f * 2 ^ prec f) where
  sqrt_is : (x : Float) → HasValue x false A C → sqrt f x ≡ units f false (nearest_root N) k
  unfolding sqrt
  sqrt_is nan v = absurd v
  sqrt_is (inf t) v = absurd v
  sqrt_is (fin true m e) v = absurd (true≢false v.0)
  sqrt_is (fin false zero e) v = absurd (no_zero e A C a v.1)
  sqrt_is (fin false (suc m) e) v = round_root_is f (suc m * up e) (down e) N k (down_pos e) (eq_of_mul-eq-mul_right C c (suc m * up e * 2 ^ (2 * low f)) (N * 2 ^ (2 * k) * down e)
      (mul_right_comm (suc m * up e) (2 ^ (2 * low f)) C
      ∙ ap (λ (y : ℕ). y * 2 ^ (2 * low f)) v.1
      ∙ mul_right_comm A (down e) (2 ^ (2 * low f))
      ∙ ap (λ (y : ℕ). y * down e) is
      ∙ mul_right_comm (N * 2 ^ (2 * k)) C (down e))) lo hi

  -- the root has all of the format's digits
  root_lo : hid f ≤ root N
  root_lo = le_of_suc-le-suc (square_lt (hid f) (suc (root N)) (lt_of_le_of_lt lo (root_is N).1))

  root_hi : root N < 2 ^ prec f
  root_hi = square_lt (root N) (2 ^ prec f) (lt_of_le_of_lt (root_is N).0 hi)

  q_lo : hid f ≤ nearest_root N
  unfolding nearest_root
  q_lo = le_trans root_lo (nearest-ge (root N) (compare (4 * N) ((2 * root N + 1) * (2 * root N + 1) * 1)))

  q_hi : nearest_root N ≤ 2 ^ prec f
  unfolding nearest_root
  q_hi = le_trans (nearest-le (root N) (compare (4 * N) ((2 * root N + 1) * (2 * root N + 1) * 1))) root_hi

  sqrt_bits : k + 2 ≤ ones f → (x : Float) → HasValue x false A C → to_bits f (sqrt f x) ≡ k * hid f + nearest_root N
  sqrt_bits K x v = ap (to_bits f) (sqrt_is x v) ∙ units_bits f (nearest_root N) k q_hi (inr (lead f (nearest_root N) q_lo)) ∙ whole f k (nearest_root N) K q_hi
    where
      lead : (f : Format) (q : ℕ) → hid f ≤ q → 2 ^ prec f ≤ 2 * q
      lead binary32 q h = omega arith
      lead binary64 q h = omega arith

      whole : (f : Format) (k q : ℕ) → k + 2 ≤ ones f → q ≤ 2 ^ prec f → min (k * hid f + q) (ones f * hid f) ≡ k * hid f + q
      whole binary32 k q h l = omega arith
      whole binary64 k q h l = omega arith

  sqrt_pattern : k + 2 ≤ ones f → (x : Float) → HasValue x false A C → (r : ℕ) → r ≡ k * hid f + nearest_root N → Pattern f (sqrt f x) r
  sqrt_pattern K x v r e =
      pattern f (sqrt f x) r (rw (sqrt_is x v) (units_fits f false (nearest_root N) k q_hi)) (rw (sqrt_is x v) (units_plain f false (nearest_root N) k)) (e ∙ sym (sqrt_bits K x v))

-- for numbers too large for `omega`
regroup : (m x a b c : ℕ) → m * x * (a * (b * c)) ≡ m * a * (x * b) * c
regroup m x a b c = simp (mul_assoc, mul_left_comm)

-- ---- what the code makes of the last digit of e
pub doubled : (d e : ℕ) → e % 2 ≡ 1 → d * 2 ≡ d * 2 ^ (e % 2)
doubled d e h = rw h

pub plain : (d e : ℕ) → (e % 2 ≡ 1 → ⊥) → d ≡ d * 2 ^ (e % 2)
plain d e h =
    let z : e % 2 ≡ 0 = omega arith in
    rw z (sym (mul-one d))

-- ---- the two formats' numbers: digits * 2 ^ e / 2 ^ 1126 with 53 digits, m = digits * 2 ^ (e % 2)
module _ (digits e : ℕ) (lo : 2 ^ 52 ≤ digits) (hi : digits < 2 ^ 53) where
  abbrev m : ℕ
  m = digits * 2 ^ (e % 2)

  parity : (e % 2 ≡ 0) ⊎ (e % 2 ≡ 1)
  parity = go (e % 2) (omega arith)
    where
      go : (r : ℕ) → r < 2 → (r ≡ 0) ⊎ (r ≡ 1)
      go zero h = inl refl
      go (suc zero) h = inr refl
      go (suc (suc r)) h = absurd (no r h)
        where
          no : (r : ℕ) → suc (suc r) < 2 → ⊥
          no r h = omega arith

  m_lo : 2 ^ 52 ≤ m
  m_lo = elim parity [ inl z ↦ rw z (omega arith) | inr z ↦ rw z (omega arith) ]

  pub m_hi : m < 2 ^ 54
  m_hi = elim parity [ inl z ↦ rw z (omega arith) | inr z ↦ rw z (omega arith) ]

  -- digits * 2 ^ e is m * 4 ^ (e / 2)
  m_is : digits * 2 ^ e ≡ m * 2 ^ (2 * (e / 2))
  m_is = ap (λ (x : ℕ). digits * x) (ap (λ (x : ℕ). 2 ^ x) split ∙ pow-add 2 (e % 2) (2 * (e / 2))) ∙ sym (mul_assoc digits (2 ^ (e % 2)) (2 ^ (2 * (e / 2))))
    where
      split : e ≡ e % 2 + 2 * (e / 2)
      split = omega arith

  some : 0 < digits * 2 ^ e
  some = mul-pos (lt_of_lt_of_le (lit< tt) lo) (pow_pos e)

  -- binary64: N is m * 4 ^ 53 / 2 ^ 54
  N64 : m * 4 ^ 53 / 2 ^ 54 ≡ m * 2 ^ 52
  N64 = omega arith

  pub exact64 : m * 4 ^ 53 % 2 ^ 54 ≡ 0
  exact64 = omega arith

  is64 : digits * 2 ^ e * 2 ^ (2 * 1074) ≡ m * 2 ^ 52 * 2 ^ (2 * (e / 2 + 485)) * 2 ^ 1126
  is64 = rw (m_is, times (e / 2), pow-add 2 (2 * (e / 2)) 970) (regroup m (2 ^ (2 * (e / 2))) (2 ^ 52) (2 ^ 970) (2 ^ 1126))
    where
      times : (h : ℕ) → 2 * (h + 485) ≡ 2 * h + 970
      times h = omega arith

  pub sqrt64_pattern : e < 2100 → (x : Float) → HasValue x false (digits * 2 ^ e) (2 ^ 1126) → (q : ℕ) → q ≡ nearest_root (m * 4 ^ 53 / 2 ^ 54)
      → Pattern binary64 (sqrt binary64 x) ((e / 2 + 485) * 2 ^ 52 + q)
  sqrt64_pattern E x v q Q =
      sqrt_pattern binary64 (digits * 2 ^ e) (2 ^ 1126) (m * 2 ^ 52) (e / 2 + 485) some (pow_pos 1126) is64 (omega (arith, m_lo)) (omega (arith, m_hi)) (omega arith) x v ((e / 2 + 485) * 2 ^ 52 + q)
      (ap (λ (y : ℕ). (e / 2 + 485) * 2 ^ 52 + y) (Q ∙ ap nearest_root N64))

  -- binary32: N is m * 4 ^ 24 / 2 ^ 54, where m is a multiple of 64
  module _ (w : ℕ) (W : digits ≡ 64 * w) (E : 925 ≤ e) (E' : e < 1202) where
    even : m % 64 ≡ 0
    even = elim parity [ inl z ↦ rw z (omega arith) | inr z ↦ rw z (omega arith) ]

    N32 : m * 4 ^ 24 / 2 ^ 54 ≡ m / 64
    N32 = omega (arith, even)

    pub exact32 : m * 4 ^ 24 % 2 ^ 54 ≡ 0
    exact32 = omega (arith, even)

    is32 : digits * 2 ^ e * 2 ^ (2 * 149) ≡ m / 64 * 2 ^ (2 * (e / 2 - 411)) * 2 ^ 1126
    is32 = m_is' ∙ sym (regroup (m / 64) (2 ^ (2 * (e / 2 - 411))) 64 (2 ^ 822) (2 ^ 298))
      where
        times : 2 * (e / 2) ≡ 2 * (e / 2 - 411) + 822
        times = omega arith

        whole : m ≡ m / 64 * 64
        whole = omega (arith, even)

        m_is' : digits * 2 ^ e * 2 ^ 298 ≡ m / 64 * 64 * (2 ^ (2 * (e / 2 - 411)) * 2 ^ 822) * 2 ^ 298
        m_is' = ap (λ (y : ℕ). y * 2 ^ 298) (m_is ∙ ap (λ (y : ℕ). y * 2 ^ (2 * (e / 2))) whole ∙ ap (λ (y : ℕ). m / 64 * 64 * y) (ap (λ (y : ℕ). 2 ^ y) times ∙ pow-add 2 (2 * (e / 2 - 411)) 822))

    pub sqrt32_pattern : (x : Float) → HasValue x false (digits * 2 ^ e) (2 ^ 1126) → (q : ℕ) → q ≡ nearest_root (m * 4 ^ 24 / 2 ^ 54)
        → Pattern binary32 (sqrt binary32 x) ((e / 2 - 411) * 2 ^ 23 + q)
    sqrt32_pattern x v q Q =
        sqrt_pattern binary32 (digits * 2 ^ e) (2 ^ 1126) (m / 64) (e / 2 - 411) some (pow_pos 1126) is32 (omega (arith, m_lo)) (omega (arith, m_hi)) (omega arith) x v ((e / 2 - 411) * 2 ^ 23 + q)
        (ap (λ (y : ℕ). (e / 2 - 411) * 2 ^ 23 + y) (Q ∙ ap nearest_root N32))
