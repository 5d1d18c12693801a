-- Samples that are bytes: whole numbers up to 255, which a pixel's are.
use Rattle.std.proofs.Common.{◌≡◌, ℕ, zero, suc, ◌≤◌, ◌<◌, true, false, List, length, get_or, set, inl, inr, refl, sym, ap, ◌∙◌, subst, arith}
use Rattle.std.proofs.lemmas.Bool.{cases_eq}
use Rattle.std.proofs.lemmas.Grind.{get_or-set_at}
use Rattle.std.proofs.lemmas.List.{get_or-set_other}
use lib.Dec.{le→leb}
use lib.ListN.{replicate}
use lib.Ieee.{Float, nan, inf, fin, binary32, of_bits, in_float, to_unsigned}
use lib.Ieee.Back.{unsigned_back}
use Rattle.ieee.specs.Numbers.{f32_of}
use Rattle.levels.specs.Whole.{Upto}
use Rattle.levels.proofs.Constants.{zero_is}
use Rattle.tile.specs.Tile.{IsByte, ByteSamples}

as_u8_small : (x : Float) → to_unsigned 8 x ≤ 255
unfolding to_unsigned
as_u8_small nan = omega arith
as_u8_small (inf true) = omega arith
as_u8_small (inf false) = omega arith
as_u8_small (fin true m e) = omega arith
as_u8_small (fin false m e) = omega arith

pub bytes_upto : (samples : List Float) → ByteSamples samples → (k : ℕ) → k < 289 → Upto 255 (get_or samples k nan)
bytes_upto samples bytes k h =
    let x = get_or samples k nan in
    record { number = to_unsigned 8 x; is = sym (bytes k h); small = as_u8_small x }

-- a byte as a float, as a u8 and back
pub byte_is : (n : ℕ) → n < 256 → IsByte (f32_of n)
unfolding in_float
byte_is n h = ap f32_of (unsigned_back binary32 8 n (le→leb n 16777216 (omega arith)) (omega arith)).1

-- samples of zero are bytes, and stay so where one is set to a byte
pub zero_bytes : ByteSamples (replicate 289 (of_bits binary32 0))
zero_bytes k h = let e : get_or (replicate 289 (of_bits binary32 0)) k nan ≡ f32_of 0 = each (of_bits binary32 0) 289 k h ∙ zero_is in
    subst IsByte (sym e) (byte_is 0 (omega arith))
  where
    each : (x : Float) (n k : ℕ) → k < n → get_or (replicate n x) k nan ≡ x
    each x (suc n) zero g = refl
    each x (suc n) (suc k) g = each x n k (omega arith)
    each x zero k g = absurd (omega arith)

pub set_bytes : (samples : List Float) (i : ℕ) (x : Float) → length samples ≡ 289 → i < 289 → IsByte x → ByteSamples samples → ByteSamples (set samples i x)
set_bytes samples i x long h b all k g = elim (cases_eq k i) [
  | inl e ↦ let same : get_or (set samples i x) k nan ≡ x = get_or-set_at samples i k x nan e (omega arith) in subst IsByte (sym same) b
  | inr n ↦ let same : get_or (set samples i x) k nan ≡ get_or samples k nan = get_or-set_other samples i k x nan n in subst IsByte (sym same) (all k g)
]
