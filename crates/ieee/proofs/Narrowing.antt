-- `convert binary32` of an f64, as patterns: what to_f32 makes of the 53 digits and the exponent's field (`narrow_over`, `narrow_mid`, `narrow_low`, `narrow_none`), and of the sign.
use mathlib.Core.Path.{◌≡◌, refl, sym, ap, ◌∙◌}
use mathlib.Core.Logic.{◌⊎◌, inl, inr}
use mathlib.Core.Bool.{Bool, true, false, not}
use Prim.Native.Nat.{ℕ, suc, ◌+◌, ◌-◌, ◌*◌, ◌/◌, ◌%◌, ◌^◌, ◌≤◌, ◌<◌, min, compare}
use native.Mathlib.Nat.{le_trans, le_of_eq, lt_of_lt_of_le, mul_assoc, mul_comm, mul_left_comm, mul-pos, mul-le-mul_right, div-lt_iff_lt-mul, le-div_iff_mul-le, div-eq_of_lt, mod-eq_of_lt, eq-zero-or-pos, eq-or-lt_of_le, pow-succ'}
use native.Mathlib.Omega.{arith}
use lib.Dec.{T, lit≤}
use lib.Pow.{pow-add, pow_pos, pow_mono, shl_lt, shr_lt}
use lib.Ieee.{Float, Format, binary32, binary64, prec, low, size, units, round, to_bits, of_bits, fits, is_nan, ne, neg, div}
use lib.Ieee.Bits.{of_bits-to_bits, to_bits-lt}
use lib.Ieee.Fits.{round_is, nearest-le}
use lib.Ieee.Exact.{HasValue}
use lib.Ieee.Nearest.{closest, closest_same, nearest-ge}
use Rattle.ieee.specs.Convert.{convert}
use Rattle.ieee.proofs.Naturals.{closest_lt}
use Rattle.ieee.proofs.Tests.{nan_is, zero_over_zero}
use Rattle.ieee.proofs.Units.{Lead, neg_neg, neg_plain}
use Rattle.ieee.proofs.Patterns.{drop_is, units_bits}
use Rattle.ieee.proofs.ConvertFormat.{convert_value, convert_fits, convert_plain, convert_neg}
use Rattle.ieee.proofs.Reading.{read_low, read_high, below_top, digits_few, Pattern, pattern, in_size, of_bits_neg}

-- ---- sig * 2 ^ j / 2 ^ L at the format f, which drops k digits of the whole part in units: sig / 2 ^ d to the nearest
module _ (f : Format) (s : Bool) (sig j L k d : ℕ) (D : d + (j + low f) ≡ L + k) where
  abbrev n : ℕ
  n = sig * 2 ^ j * 2 ^ low f

  whole : n * 2 ^ d ≡ sig * (2 ^ L * 2 ^ k)
  whole = rw (← pow-add 2 L k, ← D, pow-add 2 d (j + low f), pow-add 2 j (low f)) (simp (mul_assoc, mul_comm, mul_left_comm))

  round_shift : size (n / 2 ^ L) - prec f ≡ k → round f s (sig * 2 ^ j) (2 ^ L) ≡ units f s (closest sig (2 ^ d)) k
  round_shift z =
      round_is f s (sig * 2 ^ j) (2 ^ L)
      ∙ ap (λ (x : ℕ). units f s (closest n (2 ^ L * 2 ^ x)) x) z
      ∙ ap (λ (x : ℕ). units f s x k) (closest_same n (2 ^ L * 2 ^ k) sig (2 ^ d) (mul-pos (pow_pos L) (pow_pos k)) (pow_pos d) whole)

-- ---- an f64 at binary32: sig has 53 digits at most
module _ (sig j k d : ℕ) (small : sig < 2 ^ 53) (D : d + (j + 149) ≡ 1074 + k) (far : 29 ≤ d) (lead : (k ≡ 0) ⊎ ((d ≡ 29) × (2 ^ 52 ≤ sig))) where
  abbrev w : ℕ
  w = sig * 2 ^ j * 2 ^ 149 / 2 ^ 1074

  upper : w < 2 ^ (24 + k)
  upper = (div-lt_iff_lt-mul (pow_pos 1074)).1 (lt_of_lt_of_le (shl_lt (53 + j) 149 (shl_lt 53 j small)) (rw (← pow-add 2 (24 + k) 1074) (pow_mono (omega arith))))

  lower : d ≡ 29 → 2 ^ 52 ≤ sig → 2 ^ (24 + k) ≤ 2 * w
  lower e h = twice (2 ^ (24 + k)) (2 ^ (23 + k)) w (ap (λ (x : ℕ). 2 ^ x) (next k) ∙ pow-succ' 2 (23 + k)) ((le-div_iff_mul-le (pow_pos 1074)).1
      (le_trans (le_of_eq (sym (pow-add 2 (23 + k) 1074) ∙ ap (λ (x : ℕ). 2 ^ x) same ∙ pow-add 2 (52 + j) 149 ∙ ap (λ (x : ℕ). x * 2 ^ 149) (pow-add 2 52 j)))
      (mul-le-mul_right (2 ^ 149) (mul-le-mul_right (2 ^ j) h))))
    where
      twice : (a b c : ℕ) → a ≡ 2 * b → b ≤ c → a ≤ 2 * c
      twice a b c x y = omega arith

      next : (k : ℕ) → 24 + k ≡ suc (23 + k)
      next k = omega arith

      same : 23 + k + 1074 ≡ 52 + j + 149
      same = omega arith

  drops : size w - 24 ≡ k
  drops = drop_is 24 k w upper (go lead)
    where
      go : (k ≡ 0) ⊎ ((d ≡ 29) × (2 ^ 52 ≤ sig)) → (k ≡ 0) ⊎ (2 ^ (24 + k) ≤ 2 * w)
      go (inl z) = inl z
      go (inr l) = inr (lower l.0 l.1)

  q_le : closest sig (2 ^ d) ≤ 2 ^ 24
  q_le = le_trans (nearest-le (sig / 2 ^ d) (compare (sig % 2 ^ d * 2) (2 ^ d))) (shr_lt 24 d (lt_of_lt_of_le small (pow_mono {i = 53} (omega arith))))

  q_ge : (k ≡ 0) ⊎ ((d ≡ 29) × (2 ^ 52 ≤ sig)) → Lead binary32 (closest sig (2 ^ d)) k
  q_ge (inl z) = inl z
  q_ge (inr l) = inr (go (sig / 2 ^ d) (closest sig (2 ^ d)) (nearest-ge (sig / 2 ^ d) (compare (sig % 2 ^ d * 2) (2 ^ d))) ((le-div_iff_mul-le (pow_pos d)).1 (rw l.0 l.1)))
    where
      go : (a b : ℕ) → a ≤ b → 2 ^ 23 ≤ a → 2 ^ 24 ≤ 2 * b
      go a b x y = omega arith

  narrow_bits : (v : Float) → HasValue v false (sig * 2 ^ j) (2 ^ 1074) → to_bits binary32 (convert binary32 v) ≡ min (k * 0x80_0000 + closest sig (2 ^ d)) 0x7f80_0000
  narrow_bits v h =
      ap (to_bits binary32) (convert_value binary32 v false (sig * 2 ^ j) (2 ^ 1074) (pow_pos 1074) h ∙ round_shift binary32 false sig j 1074 k d D drops)
      ∙ units_bits binary32 (closest sig (2 ^ d)) k q_le (q_ge lead)

-- ---- what `narrow_size` returns, by the field of the pattern a
closest_none : (sig d : ℕ) → sig < 2 ^ 53 → 54 ≤ d → closest sig (2 ^ d) ≡ 0
closest_none sig d h far =
    let big : 2 ^ 54 ≤ 2 ^ d = pow_mono {i = 54} far in
    let under : sig < 2 ^ d = omega arith in
    closest_lt sig (2 ^ d) (rw (mod-eq_of_lt under) (omega arith)) ∙ div-eq_of_lt under

abbrev size_of : ℕ → ℕ
size_of a = to_bits binary32 (convert binary32 (of_bits binary64 a))

inf_size : size_of 0x7ff0_0000_0000_0000 ≡ 0x7f80_0000
unfolding of_bits convert to_bits
inf_size = refl

module _ (a : ℕ) (A : a ≤ 0x7ff0_0000_0000_0000) where
  abbrev field : ℕ
  field = a / 2 ^ 52

  abbrev digits : ℕ
  digits = 2 ^ 52 + a % 2 ^ 52

  digits_ge : 2 ^ 52 ≤ digits
  digits_ge = omega arith

  narrow_normal : 897 ≤ field → field < 2047 → size_of a ≡ min ((field - 897) * 0x80_0000 + closest digits (2 ^ 29)) 0x7f80_0000
  narrow_normal lo hi =
      narrow_bits digits (field - 1) (field - 897) 29 (digits_few binary64 a) (omega arith) (omega arith) (inr (refl, digits_ge)) (of_bits binary64 a)
      (read_high binary64 a (below_top binary64 a A) (field - 1) (omega arith) (omega arith))

  pub digits_closest : (2 ^ 23 ≤ closest digits (2 ^ 29)) × (closest digits (2 ^ 29) ≤ 2 ^ 24)
  digits_closest = (
    le_trans (omega arith) (nearest-ge (digits / 2 ^ 29) (compare (digits % 2 ^ 29 * 2) (2 ^ 29))),
    le_trans (nearest-le (digits / 2 ^ 29) (compare (digits % 2 ^ 29 * 2) (2 ^ 29))) (omega arith),
  )

  pub narrow_low : 0 < field → field < 897 → size_of a ≡ closest digits (2 ^ (926 - field))
  narrow_low lo hi =
      narrow_bits digits (field - 1) 0 (926 - field) (digits_few binary64 a) (omega arith) (omega arith) (inl refl) (of_bits binary64 a)
      (read_high binary64 a (below_top binary64 a A) (field - 1) (omega arith) (omega arith))
      ∙ capped (closest digits (2 ^ (926 - field))) (q_le digits (field - 1) 0 (926 - field) (digits_few binary64 a) (omega arith) (omega arith) (inl refl))
    where
      capped : (q : ℕ) → q ≤ 2 ^ 24 → min (0 * 0x80_0000 + q) 0x7f80_0000 ≡ q
      capped q h = omega arith

  pub narrow_none : field < 873 → size_of a ≡ 0
  narrow_none h = elim (eq-zero-or-pos field) [
    | inl z ↦
        let t : a % 2 ^ 52 < 2 ^ 53 = omega arith in
        narrow_bits (a % 2 ^ 52) 0 0 925 t refl (lit≤ tt) (inl refl) (of_bits binary64 a) (read_low binary64 a (below_top binary64 a A) z) ∙ ap (λ (q : ℕ). min (0 * 0x80_0000 + q) 0x7f80_0000) (closest_none (a % 2 ^ 52) 925 t (lit≤ tt))
    | inr p ↦ narrow_low p (omega arith) ∙ closest_none digits (926 - field) (digits_few binary64 a) (omega arith)
  ]

  pub narrow_over : 1151 ≤ field → size_of a ≡ 0x7f80_0000
  narrow_over h = elim (eq-or-lt_of_le A) [
    | inl e ↦ ap size_of e ∙ inf_size
    | inr l ↦ narrow_normal (omega arith) (omega arith) ∙ capped (field - 897) (closest digits (2 ^ 29)) (omega arith) digits_closest.0
  ]
    where
      capped : (k q : ℕ) → 254 ≤ k → 2 ^ 23 ≤ q → min (k * 0x80_0000 + q) 0x7f80_0000 ≡ 0x7f80_0000
      capped k q h l = omega arith

  pub narrow_mid : 897 ≤ field → field < 1151 → size_of a ≡ (field - 897) * 0x80_0000 + closest digits (2 ^ 29)
  narrow_mid lo hi = narrow_normal lo (omega arith) ∙ whole (field - 897) (closest digits (2 ^ 29)) (omega arith) digits_closest.1
    where
      whole : (k q : ℕ) → k ≤ 253 → q ≤ 2 ^ 24 → min (k * 0x80_0000 + q) 0x7f80_0000 ≡ k * 0x80_0000 + q
      whole k q h l = omega arith

-- ---- the sign, and what is no number
pub narrow_nan : (x : Float) → ne x x ≡ true → div binary32 (of_bits binary32 0) (of_bits binary32 0) ≡ convert binary32 x
unfolding convert
narrow_nan x h = zero_over_zero binary32 ∙ sym (ap (convert binary32) (nan_is x h))

-- ---- an x that the format holds and that is no NaN, by its pattern b: what `narrow_size` is asked, and what it gives
module _ (x : Float) (F : T (fits binary64 x)) (N : T (not (is_nan x))) where
  abbrev b : ℕ
  b = to_bits binary64 x

  wide : b < 2 ^ 64
  wide = to_bits-lt binary64 x F

  pub size_above : 2 ^ 63 ≤ b → b - 2 ^ 63 ≤ 0x7ff0_0000_0000_0000
  size_above h = omega (arith, in_size binary64 x F N, wide)

  pub size_below : b < 2 ^ 63 → b ≤ 0x7ff0_0000_0000_0000
  size_below h = omega (arith, in_size binary64 x F N)

  pub of_below : (r : ℕ) → r ≡ to_bits binary32 (convert binary32 (of_bits binary64 b)) → Pattern binary32 (convert binary32 x) r
  of_below r e = pattern binary32 (convert binary32 x) r (convert_fits binary32 x) (convert_plain binary32 x N) (e ∙ ap (λ (v : Float). to_bits binary32 (convert binary32 v)) (of_bits-to_bits binary64 x F))

  turned : 2 ^ 63 ≤ b → of_bits binary64 (b - 2 ^ 63) ≡ neg x
  turned h = sym (neg_neg (of_bits binary64 (b - 2 ^ 63))) ∙ ap neg (sym (of_bits_neg binary64 b h wide) ∙ of_bits-to_bits binary64 x F)

  pub of_above : 2 ^ 63 ≤ b → (r : ℕ) → r ≡ to_bits binary32 (convert binary32 (of_bits binary64 (b - 2 ^ 63))) → Pattern binary32 (convert binary32 (neg x)) r
  of_above h r e = pattern binary32 (convert binary32 (neg x)) r (convert_fits binary32 (neg x)) (convert_plain binary32 (neg x) (neg_plain x N)) (e ∙ ap (λ (v : Float). to_bits binary32 (convert binary32 v)) (turned h))

  pub above_is : (y : Float) → y ≡ convert binary32 (neg x) → neg y ≡ convert binary32 x
  above_is y e = ap neg (e ∙ convert_neg binary32 x) ∙ neg_neg (convert binary32 x)
