-- Writing and reading undo each other: `value_bytes` for a number, `bytes_value` for bytes.
use mathlib.Core.Path.{◌≡◌, refl, ap, ◌∙◌}
use Prim.Native.Nat.{ℕ, zero, suc, ◌+◌, ◌*◌, ◌/◌, ◌%◌, ◌^◌, ◌<◌}
use mathlib.Core.List.{List, [], ◌∷◌}
use native.Mathlib.Omega.{arith}
use native.Mathlib.Nat.{pow-succ', mod-lt}
use lib.ListN.{length}
use lib.Pow.{pow_pos}
use Rattle.little_endian.specs.Bytes.{bytes_of, value_of, Bytes}

pub length_bytes : (n x : ℕ) → length (bytes_of n x) ≡ n
unfolding bytes_of
length_bytes zero x = refl
length_bytes (suc n) x = ap suc (length_bytes n _)

-- what is written are bytes
pub bytes_are : (n x : ℕ) → Bytes (bytes_of n x)
unfolding bytes_of
bytes_are zero x = tt
bytes_are (suc n) x = (mod-lt x (omega arith), bytes_are n _)

-- n bytes hold every number below 256 ^ n
pub value_bytes : (n x : ℕ) → x < 256 ^ n → value_of (bytes_of n x) ≡ x
unfolding bytes_of value_of
value_bytes zero x h = omega arith
value_bytes (suc n) x h = ap (λ (v : ℕ). x % 256 + 256 * v) (value_bytes n (x / 256) (less x (256 ^ n) (rw pow-succ' at h))) ∙ whole x
  where
    less : (x p : ℕ) → x < 256 * p → x / 256 < p
    less x p h = omega arith

    whole : (x : ℕ) → x % 256 + 256 * (x / 256) ≡ x
    whole x = omega arith

pub bytes_value : (l : List ℕ) → Bytes l → bytes_of (length l) (value_of l) ≡ l
unfolding bytes_of value_of
bytes_value [] b = refl
bytes_value (x ∷ l) b =
    ap (λ (y : ℕ). y ∷ bytes_of (length l) ((x + 256 * value_of l) / 256)) (low x (value_of l) b.0)
    ∙ ap (λ (y : ℕ). x ∷ bytes_of (length l) y) (high x (value_of l) b.0)
    ∙ ap (λ (m : List ℕ). x ∷ m) (bytes_value l b.1)
  where
    low : (x v : ℕ) → x < 256 → (x + 256 * v) % 256 ≡ x
    low x v h = omega arith

    high : (x v : ℕ) → x < 256 → (x + 256 * v) / 256 ≡ v
    high x v h = omega arith

-- bytes stand for a number below 256 to their count
pub value_lt : (l : List ℕ) → Bytes l → value_of l < 256 ^ length l
unfolding value_of
value_lt [] b = pow_pos 0
value_lt (x ∷ l) b = rw (pow-succ' 256 (length l)) (less x (value_of l) (256 ^ length l) b.0 (value_lt l b.1))
  where
    less : (x v p : ℕ) → x < 256 → v < p → x + 256 * v < 256 * p
    less x v p h i = omega arith

-- the order of the bytes, by example
low_first : bytes_of 4 0x01020304 ≡ 4 ∷ 3 ∷ 2 ∷ 1 ∷ []
unfolding bytes_of
low_first = refl

low_first_read : value_of (4 ∷ 3 ∷ 2 ∷ 1 ∷ []) ≡ 0x01020304
unfolding value_of
low_first_read = refl
