-- `sqrt` is IEEE 754-2019's squareRoot (section 5.4.1): the exact root of a number above zero is rounded by roundTiesToEven (`sqrt_rounds`), and nothing else is what that asks (`sqrt_only`).
-- The root of a number of the format is finite (`sqrt_finite`). The root of -0 is -0, and below zero there is none.
use mathlib.Core.Path.{◌≡◌, refl, sym, ap, ◌∙◌, subst}
use mathlib.Core.Logic.{inl, inr}
use mathlib.Core.Bool.{Bool, true, false}
use Prim.Native.Nat.{ℕ, zero, suc, ◌+◌, ◌-◌, ◌*◌, ◌/◌, ◌^◌, ◌≤◌, ◌<◌, compare}
use native.Mathlib.Nat.{le_trans, le_of_eq, le_of_suc-le-suc, lt_of_lt_of_le, lt_of_le_of_lt, not-le_of_lt, mul_assoc, mul_comm, mul_left_comm, mul-pos, mul-le-mul, mul-le-mul_right, mul-le-mul_left, lt_of_mul-lt-mul_right, le_of_mul-le-mul_right, div-lt_iff_lt-mul, le-div_iff_mul-le, pow-succ'}
use native.Mathlib.Omega.{arith}
use lib.Dec.{T, lit≤}
use lib.IntN.{ℤ, pos}
use lib.Pow.{pow-add, pow_pos, pow_mono}
use lib.Ieee.{Float, nan, inf, fin, Format, binary32, binary64, prec, emax, low, hid, up, down, size, fits}
use lib.Ieee.Fits.{down_pos, nan-fits, inf-fits}
use lib.Ieee.Digits.{size-lt}
use Rattle.ieee.specs.Order.{finite}
use Rattle.ieee.specs.Sqrt.{root, round_root, sqrt}
use Rattle.ieee.specs.Rounding.{root_of, RoundTiesToEven}
use Rattle.ieee.proofs.Naturals.{trichotomy, square_lt, pow_double, compare_lt, compare_eq, compare_gt}
use Rattle.ieee.proofs.Units.{Lead, leads}
use Rattle.ieee.proofs.Roots.{root_is}
use Rattle.ieee.proofs.Grid.{value_small}
use Rattle.ieee.proofs.RoundsToEven.{Half, Cut, rounds, only}

-- ---- how `round_root` cuts the root of num / den
square_of : (a b d : ℕ) → a * b * (a * b) * d ≡ a * a * (d * (b * b))
square_of a b d = simp (mul_assoc, mul_comm, mul_left_comm)

module _ (f : Format) (num den : ℕ) (D : 0 < den) where
  abbrev n : ℕ
  n = num * 2 ^ (2 * low f)

  abbrev k : ℕ
  k = size (root (n / den)) - prec f

  abbrev u : ℕ
  u = den * 2 ^ (2 * k)

  abbrev q : ℕ
  q = root (n / u)

  U : 0 < u
  U = mul-pos D (pow_pos (2 * k))

  squares : (x : ℕ) → x * 2 ^ k * (x * 2 ^ k) * den ≡ x * x * u
  squares x = square_of x (2 ^ k) den ∙ ap (λ (y : ℕ). x * x * (den * y)) (sym (pow_double k))

  n_is : num * (2 ^ low f * 2 ^ low f) ≡ n
  n_is = ap (λ (y : ℕ). num * y) (sym (pow_double (low f)))

  -- q² ≤ n / u < (q + 1)²
  lower : q * q * u ≤ n
  lower = (le-div_iff_mul-le U).0 (root_is (n / u)).0

  upper : n < suc q * suc q * u
  upper = (div-lt_iff_lt-mul U).0 (root_is (n / u)).1

  few : q < 2 ^ prec f
  few =
      let w = root (n / den) in
      let a : q * 2 ^ k * (q * 2 ^ k) ≤ n / den = (le-div_iff_mul-le D).1 (le_trans (le_of_eq (squares q)) lower) in
      let b : q * 2 ^ k ≤ w = le_of_suc-le-suc (square_lt (q * 2 ^ k) (suc w) (lt_of_le_of_lt a (root_is (n / den)).1)) in
      lt_of_mul-lt-mul_right (2 ^ k) (lt_of_le_of_lt b (lt_of_lt_of_le (size-lt w) (le_trans (pow_mono (cover (size w) (prec f))) (le_of_eq (pow-add 2 (prec f) k)))))
    where
      cover : (z p : ℕ) → z ≤ p + (z - p)
      cover z p = omega arith

  q_leads : Lead f q k
  q_leads =
      leads f (root (n / den)) q
      (λ a.
      let b : hid f * 2 ^ k * (hid f * 2 ^ k) * den ≤ n = (le-div_iff_mul-le D).0 (le_trans (mul-le-mul a a) (root_is (n / den)).0) in
      le_of_suc-le-suc (square_lt (hid f) (suc q) (lt_of_le_of_lt ((le-div_iff_mul-le U).1 (le_trans (le_of_eq (sym (squares (hid f)))) b)) (root_is (n / u)).1)))

  -- the root against q + 1 / 2
  abbrev half_square : ℕ
  half_square = (2 * q + 1) * (2 * q + 1) * u

  four : num * (2 ^ low f * 2 * (2 ^ low f * 2)) ≡ 4 * n
  four = regroup num (2 ^ low f) ∙ ap (λ (y : ℕ). 4 * y) n_is
    where
      regroup : (a b : ℕ) → a * (b * 2 * (b * 2)) ≡ 4 * (a * (b * b))
      regroup a b = omega arith

  halves : Half (compare (4 * n) half_square) (root_of num den) ((2 * q + 1) * 2 ^ k) (2 ^ low f * 2)
  halves = elim (trichotomy (4 * n) half_square) [
    | inl l ↦ rw (compare_lt (4 * n) half_square l) (λ h. not-le_of_lt l (rw (squares (2 * q + 1), four) at h))
    | inr (inl e) ↦ rw (compare_eq (4 * n) half_square e, squares (2 * q + 1), four) (le_of_eq (sym e), le_of_eq e)
    | inr (inr g) ↦ rw (compare_gt (4 * n) half_square g) (λ h. not-le_of_lt g (rw (squares (2 * q + 1), four) at h))
  ]

  root_cut : Cut f (root_of num den) q k (compare (4 * n) half_square)
  root_cut = record {
    few = few;
    lead = q_leads;
    lo = le_trans (le_of_eq (squares q)) (le_trans lower (le_of_eq (sym n_is)));
    hi = λ h. not-le_of_lt upper (le_trans (le_of_eq (sym (squares (suc q)))) (le_trans h (le_of_eq n_is)));
    half = halves;
  }

  root_rounds : RoundTiesToEven f false (root_of num den) (round_root f num den)
  unfolding round_root
  root_rounds = rounds f (root_of num den) D q k (compare (4 * n) half_square) root_cut false

  root_only : (y : Float) → RoundTiesToEven f false (root_of num den) y → y ≡ round_root f num den
  unfolding round_root
  root_only y A = only f (root_of num den) D q k (compare (4 * n) half_square) root_cut false y A

-- ---- squareRoot, of a number above zero
module _ (f : Format) (m : ℕ) (e : ℤ) where
  pub sqrt_rounds : RoundTiesToEven f false (root_of (suc m * up e) (down e)) (sqrt f (fin false (suc m) e))
  unfolding sqrt
  sqrt_rounds = root_rounds f (suc m * up e) (down e) (down_pos e)

  pub sqrt_only : (y : Float) → RoundTiesToEven f false (root_of (suc m * up e) (down e)) y → y ≡ sqrt f (fin false (suc m) e)
  unfolding sqrt
  sqrt_only y A = root_only f (suc m * up e) (down e) (down_pos e) y A

  -- (2 ^ emax)² is above all numbers of the format
  pub sqrt_finite : T (fits f (fin false (suc m) e)) → T (finite (sqrt f (fin false (suc m) e)))
  sqrt_finite F =
      sqrt_rounds.under
      (λ h. no (2 ^ emax f) (2 ^ prec f) (2 ^ suc (prec f) - 1) (suc m * up e) (down e) (two f) (pow_pos (prec f)) (more f) h (subst (λ (x : ℕ). suc m * up e < x * down e) (pow-succ' 2 (emax f)) (value_small f (fin false (suc m) e) false (suc m * up e) (down e) (down_pos e) F (refl, refl))))
    where
      two : (f : Format) → 2 ≤ 2 ^ emax f
      two binary32 = lit≤ tt
      two binary64 = lit≤ tt

      more : (f : Format) → 2 ^ prec f ≤ 2 ^ suc (prec f) - 1
      more binary32 = lit≤ tt
      more binary64 = lit≤ tt

      regroup : (A a d : ℕ) → A * a * (A * a) * d ≡ A * A * d * (a * a)
      regroup A a d = simp (mul_assoc, mul_comm, mul_left_comm)

      no : (A a l n d : ℕ) → 2 ≤ A → 0 < a → a ≤ l → A * l * (A * l) * d ≤ n * (a * a) → n < 2 * A * d → ⊥
      no A a l n d t p g h i =
          let w : A * a ≤ A * l = mul-le-mul_left A g in
          let z : A * A * d ≤ n = le_of_mul-le-mul_right (le_trans (le_of_eq (sym (regroup A a d))) (le_trans (mul-le-mul_right d (mul-le-mul w w)) h)) (mul-pos p p) in
          not-le_of_lt (lt_of_mul-lt-mul_right d (lt_of_le_of_lt z i)) (mul-le-mul_right A t)

-- ---- and of the others
module _ (f : Format) where
  pub sqrt_nan : sqrt f nan ≡ nan
  unfolding sqrt
  sqrt_nan = refl

  pub sqrt_inf : sqrt f (inf false) ≡ inf false
  unfolding sqrt
  sqrt_inf = refl

  pub sqrt_zero : (s : Bool) → sqrt f (fin s 0 (pos 0)) ≡ fin s 0 (pos 0)
  unfolding sqrt
  sqrt_zero s = refl

  pub sqrt_below : (m : ℕ) (e : ℤ) → sqrt f (fin true (suc m) e) ≡ nan
  unfolding sqrt
  sqrt_below m e = refl

  pub sqrt_below_all : sqrt f (inf true) ≡ nan
  unfolding sqrt
  sqrt_below_all = refl

  -- of a value of the format, a value of the format
  pub sqrt_fits : (x : Float) → T (fits f x) → T (fits f (sqrt f x))
  unfolding sqrt
  sqrt_fits nan F = nan-fits f
  sqrt_fits (inf true) F = nan-fits f
  sqrt_fits (inf false) F = inf-fits f false
  sqrt_fits (fin s zero e) F = F
  sqrt_fits (fin true (suc m) e) F = nan-fits f
  sqrt_fits (fin false (suc m) e) F = (root_rounds f (suc m * up e) (down e) (down_pos e)).held
