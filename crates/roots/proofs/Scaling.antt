-- An f64 above zero and finite, with all of 53 digits: a normal one has them, and the digits of a subnormal one move up until the first is a 1.
use mathlib.Core.Path.{◌≡◌, refl, sym, ap, ◌∙◌, subst}
use mathlib.Core.Bool.{Bool, false}
use Prim.Native.Nat.{ℕ, suc, ◌+◌, ◌-◌, ◌*◌, ◌/◌, ◌%◌, ◌^◌, ◌≤◌, ◌<◌}
use native.Mathlib.Nat.{le_trans, le_of_eq, lt_of_lt_of_le, lt_of_le_of_lt, mul_assoc, mul_right_comm, mul-le-mul_right}
use native.Mathlib.Omega.{arith}
use lib.Pow.{pow-add, pow_mono, shl_lt}
use lib.Count.{count_leading_zeros, leading_top}
use lib.Ieee.{Float, nan, inf, fin, binary64, of_bits, up, down}
use lib.Ieee.Exact.{HasValue}
use Rattle.roots.specs.Scaled.{IsScaled}
use Rattle.ieee.proofs.Naturals.{pow_lt_back}
use Rattle.ieee.proofs.Reading.{read_low, read_high}

scale_value : (x : Float) (s : Bool) (a c k : ℕ) → HasValue x s a c → HasValue x s (a * k) (c * k)
scale_value nan s a c k v = v
scale_value (inf t) s a c k v = v
scale_value (fin t m e) s a c k v = (v.0, sym (mul_assoc (m * up e) c k) ∙ ap (λ (y : ℕ). y * k) v.1 ∙ mul_right_comm a (down e) k)

module _ (a : ℕ) (A : a < 0x7ff0_0000_0000_0000) where
  abbrev field : ℕ
  field = a / 2 ^ 52

  abbrev low : ℕ
  low = a % 2 ^ 52

  in_range : a < 2 ^ 63
  in_range = omega arith

  pub scaled_high : 0 < field → IsScaled a (2 ^ 52 + low) (field + 51)
  scaled_high h =
      let d : 2 ^ 1074 * 2 ^ 52 ≡ 2 ^ 1126 = refl in
      let x : field ≡ suc (field - 1) = omega arith in
      record {
        lo = omega arith;
        hi = omega arith;
        small = omega arith;
        value = subst (λ (n : ℕ). HasValue (of_bits binary64 a) false n (2 ^ 1126)) (mul_assoc (2 ^ 52 + low) (2 ^ (field - 1)) (2 ^ 52) ∙ ap (λ (y : ℕ). (2 ^ 52 + low) * y) (sym (pow-add 2 (field - 1) 52) ∙ ap (λ (y : ℕ). 2 ^ y) (omega arith)))
            (scale_value (of_bits binary64 a) false ((2 ^ 52 + low) * 2 ^ (field - 1)) (2 ^ 1074) (2 ^ 52) (read_high binary64 a in_range (field - 1) x (omega arith)));
      }

  module _ (z : field ≡ 0) (P : 0 < a) where
    abbrev lz : ℕ
    lz = count_leading_zeros 64 low

    some : 0 < low
    some = omega arith

    -- low's highest digit is at j
    top_digit : (j : ℕ) × (lz + suc j ≡ 64) × (2 ^ j ≤ low) × (low < 2 ^ suc j)
    top_digit = leading_top 64 low some (omega arith)

    j_lt : top_digit.0 < 52
    j_lt = pow_lt_back top_digit.0 52 (lt_of_le_of_lt top_digit.2 (omega arith))

    pub lz_in : (11 ≤ lz) × (lz - 11 ≤ 52) × (lz < 64)
    lz_in = (omega (arith, j_lt, top_digit.1), omega (arith, j_lt, top_digit.1), omega (arith, top_digit.1))

    up_is : 52 ≡ top_digit.0 + (lz - 11)
    up_is = omega (arith, j_lt, top_digit.1)

    low_lo : 2 ^ 52 ≤ low * 2 ^ (lz - 11)
    low_lo = le_trans (le_of_eq (ap (λ (y : ℕ). 2 ^ y) up_is ∙ pow-add 2 top_digit.0 (lz - 11))) (mul-le-mul_right (2 ^ (lz - 11)) top_digit.2)

    pub low_hi : low * 2 ^ (lz - 11) < 2 ^ 53
    low_hi = lt_of_lt_of_le (shl_lt (suc top_digit.0) (lz - 11) top_digit.3) (pow_mono {j = 53} (omega (arith, up_is)))

    pub scaled_low : IsScaled a (low * 2 ^ (lz - 11)) (52 - (lz - 11))
    scaled_low = record {
      lo = low_lo;
      hi = low_hi;
      small = omega arith;
      value = subst (λ (n : ℕ). HasValue (of_bits binary64 a) false n (2 ^ 1126)) (same ∙ ap (λ (y : ℕ). low * y) (ap (λ (y : ℕ). 2 ^ y) join ∙ pow-add 2 (lz - 11) (52 - (lz - 11))) ∙ sym (mul_assoc low (2 ^ (lz - 11)) (2 ^ (52 - (lz - 11)))))
          (scale_value (of_bits binary64 a) false (low * 2 ^ 0) (2 ^ 1074) (2 ^ 52) (read_low binary64 a in_range z));
    }
      where
        same : low * 2 ^ 0 * 2 ^ 52 ≡ low * 2 ^ 52
        same = omega arith

        join : 52 ≡ lz - 11 + (52 - (lz - 11))
        join = omega (arith, lz_in)
