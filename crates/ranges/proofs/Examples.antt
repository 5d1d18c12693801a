-- Worked cases: the ends of each range are in it, the next floats are not. Floats are given by their f32 patterns. Assumes nothing.
use mathlib.Core.Path.{◌≡◌, refl}
use mathlib.Core.Bool.{Bool, true, false}
use mathlib.Core.List.{List, [], ◌∷◌, map}
use Prim.Native.Nat.{ℕ}
use lib.Ieee.{Float, binary32, of_bits, is_nan}
use Rattle.ieee.specs.Order.{finite}
use Rattle.ieee.specs.Numbers.{plus_zero}
use Rattle.refine.specs.Covariance.{covariance}
use Rattle.ranges.specs.Ranges.{within, up_to, all_within, both_within, sigma_range}

abbrev pub float : ℕ → Float
float n = of_bits binary32 n

-- a range at each of some patterns
abbrev pub ranged : (Float → Bool) → List ℕ → List Bool
ranged p l = map (λ (n : ℕ). p (float n)) l

-- 1,000 and -1,000, the next floats, an infinity and a NaN
abbrev thousands : List ℕ
thousands = 0x447a_0000 ∷ 0xc47a_0000 ∷ 0x447a_0001 ∷ 0xc47a_0001 ∷ 0x7f80_0000 ∷ 0x7fc0_0000 ∷ []

pub thousand_ends : ranged (within 1000) thousands ≡ true ∷ true ∷ false ∷ false ∷ false ∷ false ∷ []
unfolding within of_bits
thousand_ends = refl

-- a NaN is in the range of sigma, an infinity is not
pub sigma_ends : ranged sigma_range thousands ≡ true ∷ true ∷ false ∷ false ∷ false ∷ true ∷ []
unfolding within of_bits is_nan
sigma_ends = refl

-- of "0 to 1,000" the ends are 1,000 and a zero of either sign
pub up_to_ends : ranged (up_to 1000) thousands ≡ true ∷ false ∷ false ∷ false ∷ false ∷ false ∷ []
unfolding up_to of_bits
up_to_ends = refl

pub zero_ends : ranged (up_to 1000) (0 ∷ 0x8000_0000 ∷ 1 ∷ 0x8000_0001 ∷ []) ≡ true ∷ true ∷ true ∷ false ∷ []
unfolding up_to of_bits
zero_ends = refl

-- 1,000,000 and -1,000,000, and the next floats
pub million_ends : ranged (within 1000000) (0x4974_2400 ∷ 0xc974_2400 ∷ 0x4974_2401 ∷ 0xc974_2401 ∷ []) ≡ true ∷ true ∷ false ∷ false ∷ []
unfolding within of_bits
million_ends = refl

-- the largest number is finite
pub finite_ends : ranged finite (0x7f7f_ffff ∷ 0xff7f_ffff ∷ 0x7f80_0000 ∷ 0xff80_0000 ∷ 0x7fc0_0000 ∷ []) ≡ true ∷ true ∷ false ∷ false ∷ false ∷ []
unfolding finite of_bits
finite_ends = refl

-- each entry is judged
abbrev beyond : Float
beyond = float 0x4974_2401

pub entries : all_within 1000000 (covariance beyond plus_zero plus_zero) ∷ all_within 1000000 (covariance plus_zero beyond plus_zero) ∷ all_within 1000000 (covariance plus_zero plus_zero beyond) ∷ []
    ≡ false ∷ false ∷ false ∷ []
unfolding within of_bits
entries = refl

pub pairs : both_within 1000 (beyond ∷ plus_zero ∷ []) ∷ both_within 1000 (plus_zero ∷ beyond ∷ []) ∷ both_within 1000 (plus_zero ∷ plus_zero ∷ []) ∷ []
    ≡ false ∷ false ∷ true ∷ []
unfolding within of_bits
pairs = refl
