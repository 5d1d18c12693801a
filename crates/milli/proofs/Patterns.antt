-- Thousandths see only the value, so the pattern's digits over a power of two stand for it.
use mathlib.Core.Path.{◌≡◌, refl, sym, ap, ◌∙◌, subst}
use mathlib.Core.Bool.{Bool, true, false, not, cond, false≢true}
use mathlib.Core.Logic.{◌⊎◌, inl, inr}
use Prim.Native.Nat.{ℕ, ◌+◌, ◌-◌, ◌*◌, ◌/◌, ◌%◌, ◌^◌, ◌≤◌, ◌<◌, min}
use native.Mathlib.Nat.{le-div_iff_mul-le, div-eq_of_lt, add-div_right, div-div-eq-div-mul, mul_assoc, mul-le-mul, mul-le-mul_left, lt_of_lt_of_le, lt_of_le_of_lt, not-le_of_lt, eq-or-lt_of_le, eq-zero-or-pos, mod-eq_of_lt}
use native.Mathlib.Omega.{arith}
use lib.Dec.{T, lit≤}
use lib.Pow.{pow-add, pow_pos, pow_mono, shl_lt}
use lib.Ieee.{Float, nan, inf, fin, binary32, fits, is_nan, to_bits, of_bits, up, down}
use lib.Ieee.Bits.{of_bits-to_bits}
use lib.Ieee.Exact.{HasValue}
use lib.Ieee.Fits.{down_pos}
use lib.Ieee.Nearest.{div_same}
use Rattle.ieee.proofs.Reading.{read_low, read_high, fin_low, inf_low, in_size}
use Rattle.ieee.proofs.Values.{rescale}
use Rattle.milli.specs.Thousandths.{thousandths, milli_of}

-- ---- a fraction's thousandths

-- equal fractions have the same
thousandths_same : (a b c d : ℕ) → 0 < b → 0 < d → a * d ≡ c * b → thousandths a b ≡ thousandths c d
thousandths_same a b c d B D e = div_same (a * 2000 + b) (b * 2) (c * 2000 + d) (d * 2) (omega arith) (omega arith) (omega arith)

-- half thousandths, cut down, of which an odd number goes up
odd_up : (a c : ℕ) → 0 < c → (a * 2000 / c + 1) / 2 ≡ thousandths a c
odd_up a c C = ap (λ (h : ℕ). h / 2) (sym (add-div_right (a * 2000) C)) ∙ div-div-eq-div-mul (a * 2000 + c) c 2

-- none below half a thousandth
thousandths_none : (a c : ℕ) → a * 2000 < c → thousandths a c ≡ 0
thousandths_none a c h = div-eq_of_lt (less a c h)
  where
    less : (a c : ℕ) → a * 2000 < c → a * 2000 + c < c * 2
    less a c h = omega arith

-- more than 32 bits hold, from 2 ^ 23 on
thousandths_most : (a c : ℕ) → 0 < c → 2 ^ 23 * c ≤ a → min (thousandths a c) (2 ^ 32 - 1) ≡ 2 ^ 32 - 1
thousandths_most a c C h = capped (thousandths a c) ((le-div_iff_mul-le (omega arith)).1 (much a c h))
  where
    much : (a c : ℕ) → 2 ^ 23 * c ≤ a → (2 ^ 32 - 1) * (c * 2) ≤ a * 2000 + c
    much a c h = omega arith

    capped : (t : ℕ) → 2 ^ 32 - 1 ≤ t → min t (2 ^ 32 - 1) ≡ 2 ^ 32 - 1
    capped t h = omega arith

-- ---- a float's

pub milli_nan : (x : Float) → is_nan x ≡ true → 0 ≡ milli_of x
unfolding milli_of is_nan
milli_nan nan h = refl
milli_nan (inf s) h = absurd (false≢true h)
milli_nan (fin s m e) h = absurd (false≢true h)

pub plain : (x : Float) → false ≡ is_nan x → T (not (is_nan x))
plain x h = subst (λ (b : Bool). T (not b)) h tt

pub milli_minus : (x : Float) → T (fits binary32 x) → 2 ^ 31 ≤ to_bits binary32 x → 0 ≡ milli_of x
unfolding milli_of
milli_minus nan F h = refl
milli_minus (inf true) F h = refl
milli_minus (inf false) F h = absurd (not-le_of_lt (inf_low binary32) h)
milli_minus (fin true m e) F h = refl
milli_minus (fin false m e) F h = absurd (not-le_of_lt (fin_low binary32 m e F) h)

milli_inf : 2 ^ 32 - 1 ≡ milli_of (inf false)
unfolding milli_of
milli_inf = refl

milli_value : (x : Float) (a c : ℕ) → 0 < c → HasValue x false a c → milli_of x ≡ min (thousandths a c) (2 ^ 32 - 1)
unfolding milli_of
milli_value nan a c C v = absurd v
milli_value (inf s) a c C v = absurd v
milli_value (fin s m e) a c C v =
    ap (λ (t : Bool). cond t 0 (min (thousandths (m * up e) (down e)) (2 ^ 32 - 1))) v.0
    ∙ ap (λ (t : ℕ). min t (2 ^ 32 - 1)) (thousandths_same (m * up e) (down e) a c (down_pos e) C v.1)

inf_is : of_bits binary32 0x7f80_0000 ≡ inf false
unfolding of_bits
inf_is = refl

-- ---- by the pattern, with the sign clear

-- the d of the code: the value is the digits over 2 ^ d, or neither has half a thousandth
abbrev pub Part : ℕ → ℕ → Type 0
Part field d = ((110 ≤ field) × (d ≡ 150 - field)) ⊎ ((field < 110) × (d ≡ 40))

pub part_in : (field d : ℕ) → Part field d → d < 64
part_in field d (inl p) = omega arith
part_in field d (inr p) = omega arith

module _ (x : Float) (F : T (fits binary32 x)) (N : T (not (is_nan x))) (S : to_bits binary32 x < 2 ^ 31) where
  abbrev b : ℕ
  b = to_bits binary32 x

  abbrev field : ℕ
  field = b / 2 ^ 23

  abbrev digits : ℕ
  digits = 2 ^ 23 + b % 2 ^ 23

  at_most : b ≤ 0x7f80_0000
  at_most = subst (λ (y : ℕ). y ≤ 0x7f80_0000) (mod-eq_of_lt S) (in_size binary32 x F N)

  read : (A C : ℕ) → HasValue (of_bits binary32 b) false A C → HasValue x false A C
  read A C v = subst (λ (y : Float). HasValue y false A C) (of_bits-to_bits binary32 x F) v

  high : 0 < field → field < 255 → HasValue x false (digits * 2 ^ (field - 1)) (2 ^ 149)
  high lo hi = read (digits * 2 ^ (field - 1)) (2 ^ 149) (read_high binary32 b S (field - 1) (omega arith) (omega arith))

  pub milli_large : 150 ≤ field → 0xffff_ffff ≡ milli_of x
  milli_large h = go (eq-or-lt_of_le at_most)
    where
      go : (b ≡ 0x7f80_0000) ⊎ (b < 0x7f80_0000) → 0xffff_ffff ≡ milli_of x
      go (inl e) = milli_inf ∙ ap milli_of (sym inf_is ∙ ap (of_bits binary32) (sym e) ∙ of_bits-to_bits binary32 x F)
      go (inr l) = sym (milli_value x (digits * 2 ^ (field - 1)) (2 ^ 149) (pow_pos 149) (high (omega arith) (omega arith))
          ∙ thousandths_most (digits * 2 ^ (field - 1)) (2 ^ 149) (pow_pos 149) (mul-le-mul {n₁ = 2 ^ 23} {n₂ = digits} (omega arith) (pow_mono {i = 149} {j = field - 1} (omega arith))))

  small : (a : ℕ) → a < 2 ^ 137 → HasValue x false a (2 ^ 149) → milli_of x ≡ min (thousandths digits (2 ^ 40)) (2 ^ 32 - 1)
  small a h v = milli_value x a (2 ^ 149) (pow_pos 149) v
      ∙ ap (λ (t : ℕ). min t (2 ^ 32 - 1)) (thousandths_none a (2 ^ 149) (lt_of_le_of_lt (mul-le-mul_left {m = 2000} {n = 2 ^ 12} a (lit≤ tt)) (shl_lt 137 12 h)) ∙ sym (thousandths_none digits (2 ^ 40) (omega arith)))

  milli_part : (d : ℕ) → field < 150 → Part field d → milli_of x ≡ min (thousandths digits (2 ^ d)) (2 ^ 32 - 1)
  milli_part d h (inl p) = rw p.1
      (milli_value x digits (2 ^ (150 - field)) (pow_pos (150 - field))
      (rescale x false (digits * 2 ^ (field - 1)) (2 ^ 149) digits (2 ^ (150 - field)) (pow_pos 149)
      (sym (mul_assoc digits (2 ^ (field - 1)) (2 ^ (150 - field)) ∙ ap (λ (y : ℕ). digits * y) (sym (pow-add 2 (field - 1) (150 - field)) ∙ ap (λ (y : ℕ). 2 ^ y) (whole field p.0 h))))
      (high (omega arith) (omega arith))))
    where
      whole : (f : ℕ) → 110 ≤ f → f < 150 → f - 1 + (150 - f) ≡ 149
      whole f g h = omega arith
  milli_part d h (inr p) = rw p.1 (go (eq-zero-or-pos field))
    where
      go : (field ≡ 0) ⊎ (0 < field) → milli_of x ≡ min (thousandths digits (2 ^ 40)) (2 ^ 32 - 1)
      go (inl z) = small (b % 2 ^ 23 * 2 ^ 0) (shl_lt 137 0 (lt_of_lt_of_le {m = 2 ^ 23} (omega arith) (pow_mono {i = 23} {j = 137} (lit≤ tt)))) (read (b % 2 ^ 23 * 2 ^ 0) (2 ^ 149) (read_low binary32 b S z))
      go (inr q) = small (digits * 2 ^ (field - 1)) (lt_of_lt_of_le (shl_lt 24 (field - 1) (omega arith)) (pow_mono {i = 24 + (field - 1)} {j = 137} (omega arith))) (high q (omega arith))

  -- the code's result, of digits n, m being the largest u32
  pub milli_is : (n d m : ℕ) → field < 150 → Part field d → n ≡ digits → m ≡ 0xffff_ffff → min ((n * 2000 / 2 ^ d + 1) / 2) m ≡ milli_of x
  milli_is n d m h p e f =
      ap (λ (k : ℕ). min ((k * 2000 / 2 ^ d + 1) / 2) m) e ∙ ap (λ (t : ℕ). min t m) (odd_up digits (2 ^ d) (pow_pos d))
      ∙ ap (λ (k : ℕ). min (thousandths digits (2 ^ d)) k) f ∙ sym (milli_part d h p)
