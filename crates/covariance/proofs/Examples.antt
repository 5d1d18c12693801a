-- Worked cases at which another order of operations gives another figure, or another range another number. Floats are given by their f32 patterns. Assumes nothing.
use mathlib.Core.Path.{◌≡◌, refl}
use mathlib.Core.List.{List, [], ◌∷◌, map}
use Prim.Native.Nat.{ℕ}
use lib.Ieee
use lib.Ieee.{Float, binary32, of_bits, of_int, round, units, size, is_nan}
use Rattle.ieee.specs.Order.{larger, finite}
use Rattle.ieee.specs.Sqrt.{sqrt}
use Rattle.numbers.specs.Numbers.{number_in}
use Rattle.refine.specs.Covariance.{covariance}
use Rattle.refine.specs.declared.PositionCovariance.{PositionCovariance}
use Rattle.ranges.specs.Ranges.{within}
use Rattle.covariance.specs.declared.CovarianceModel.{CovarianceModel}
use Rattle.covariance.specs.Noise.{grown, scaled, noise_term, whole_term, noise_at, total_at}

abbrev float : ℕ → Float
float n = of_bits binary32 n

abbrev entries : ℕ → ℕ → ℕ → PositionCovariance
entries xx xy yy = covariance (float xx) (float xy) (float yy)

-- the noise term of a covariance, growths and a sigma
abbrev term_of : PositionCovariance → ℕ → ℕ → ℕ → PositionCovariance
term_of c k0 k1 sigma = noise_term (record { noise = c; systematic = entries 0 0 0; growth = float k0 ∷ float k1 ∷ [] }) (float sigma)

-- growth 0.3 at sigma 5: (var * k) * k, not var * (k * k)
pub growth_from_left : term_of (entries 0 0x3f80_0000 0) 0 0x3e99_999a 0x40a0_0000 ≡ entries 0 0x4234_470f 0
unfolding grown scaled larger sqrt units size of_bits of_int round Ieee.add Ieee.mul Ieee.lt
growth_from_left = refl

-- growth 1.3 at sigma 0.5: not fused
pub growth_not_fused : term_of (entries 0 0x3f80_0000 0) 0 0x3fa6_6666 0x3f00_0000 ≡ entries 0 0x3e98_a9ef 0
unfolding grown scaled larger sqrt units size of_bits of_int round Ieee.add Ieee.mul Ieee.lt
growth_not_fused = refl

-- growth 4 at sigma 0: not the square of sigma * k
pub growth_of_variance : term_of (entries 0 0x3f80_0000 0) 0x4080_0000 0 0 ≡ entries 0 0x3e02_594d 0
unfolding grown scaled larger sqrt units size of_bits of_int round Ieee.add Ieee.mul Ieee.lt
growth_of_variance = refl

-- growth 7 at sigma 0.3: in f32
pub growth_f32 : term_of (entries 0x3f80_0000 0 0) 0x40e0_0000 0 0x3e99_999a ≡ entries 0x3ef9_4af4 0 0
unfolding grown scaled larger sqrt units size of_bits of_int round Ieee.add Ieee.mul Ieee.lt
growth_f32 = refl

-- growth 1 at sigma 0: ((var * c) * f) * f, not var * c * (f * f), nor c * f * f * var
pub term_from_left : term_of (entries 0 0 0x3f80_0000) 0 0x3f80_0000 0 ≡ entries 0 0 0x3db8_e38e
unfolding grown scaled larger sqrt units size of_bits of_int round Ieee.add Ieee.mul Ieee.lt
term_from_left = refl

-- growths 2 and 1: xy takes f0 before f1
pub first_axis_first : term_of (entries 0 0x3f80_0000 0) 0x4000_0000 0x3f80_0000 0 ≡ entries 0 0x3dcd_1da6 0
unfolding grown scaled larger sqrt units size of_bits of_int round Ieee.add Ieee.mul Ieee.lt
first_axis_first = refl

-- growths 1 and 1: each root is taken apart
pub roots_apart : term_of (entries 0 0x3f80_0000 0) 0x3f80_0000 0x3f80_0000 0 ≡ entries 0 0x3db8_e38e 0
unfolding grown scaled larger sqrt units size of_bits of_int round Ieee.add Ieee.mul Ieee.lt
roots_apart = refl

-- each axis grows by its own: growths 0 and 1 at 1, 1, 1
pub own_growth : term_of (entries 0x3f80_0000 0x3f80_0000 0x3f80_0000) 0 0x3f80_0000 0 ≡ entries 0x3daa_aaab 0x3db1_a2b0 0x3db8_e38e
unfolding grown scaled larger sqrt units size of_bits of_int round Ieee.add Ieee.mul Ieee.lt
own_growth = refl

-- sigma 0 gives 1 / 12, the nearest f32; a NaN gives it too
pub least_variance : term_of (entries 0 0 0x3f80_0000) 0 0 0 ≡ entries 0 0 0x3daa_aaab
unfolding grown scaled larger sqrt units size of_bits of_int round Ieee.add Ieee.mul Ieee.lt
least_variance = refl

pub nan_sigma : term_of (entries 0 0 0x3f80_0000) 0 0 0x7fc0_0000 ≡ entries 0 0 0x3daa_aaab
unfolding grown scaled larger sqrt units size of_bits of_int round Ieee.add Ieee.mul Ieee.lt
nan_sigma = refl

-- sigma 5 is above it
pub own_variance : term_of (entries 0 0 0x3f80_0000) 0 0 0x40a0_0000 ≡ entries 0 0 0x41c8_0000
unfolding grown scaled larger sqrt units size of_bits of_int round Ieee.add Ieee.mul Ieee.lt
own_variance = refl

-- the systematic part is added after the term is rounded, and doesn't grow
pub total_not_fused : whole_term (record { noise = entries 0x4040_0000 0 0; systematic = entries 0x3f80_0000 0x3f80_0000 0x3f80_0000; growth = float 0x4000_0000 ∷ float 0 ∷ [] }) (float 0)
    ≡ entries 0x3faa_aaaa 0x3f80_0000 0x3f80_0000
unfolding grown scaled larger sqrt units size of_bits of_int round Ieee.add Ieee.mul Ieee.lt
total_not_fused = refl

-- ---- the ranges: at an end the number is 0, and past it 12

abbrev parts : PositionCovariance → PositionCovariance → ℕ → ℕ → CovarianceModel
parts noise systematic k0 k1 = record { noise = noise; systematic = systematic; growth = float k0 ∷ float k1 ∷ [] }

abbrev none : PositionCovariance
none = entries 0 0 0

-- the number of a model at a sigma
abbrev number_of : PositionCovariance → PositionCovariance → ℕ → ℕ → ℕ → ℕ
number_of noise systematic k0 k1 sigma = number_in (noise_at (parts noise systematic k0 k1) (float sigma))

-- 1,000 and -1,000, and the next floats
abbrev thousands : List ℕ
thousands = 0x447a_0000 ∷ 0xc47a_0000 ∷ 0x447a_0001 ∷ 0xc47a_0001 ∷ []

-- 1,000,000 and -1,000,000, and the next floats
abbrev millions : List ℕ
millions = 0x4974_2400 ∷ 0xc974_2400 ∷ 0x4974_2401 ∷ 0xc974_2401 ∷ []

-- the largest numbers, the infinities and a NaN
abbrev largest : List ℕ
largest = 0x7f7f_ffff ∷ 0xff7f_ffff ∷ 0x7f80_0000 ∷ 0xff80_0000 ∷ 0x7fc0_0000 ∷ []

pub noise_xx_ends : map (λ (n : ℕ). number_of (entries n 0 0) none 0 0 0) millions ≡ 0 ∷ 0 ∷ 12 ∷ 12 ∷ []
unfolding noise_at within finite of_bits is_nan
noise_xx_ends = refl

pub noise_xy_ends : map (λ (n : ℕ). number_of (entries 0 n 0) none 0 0 0) millions ≡ 0 ∷ 0 ∷ 12 ∷ 12 ∷ []
unfolding noise_at within finite of_bits is_nan
noise_xy_ends = refl

pub noise_yy_ends : map (λ (n : ℕ). number_of (entries 0 0 n) none 0 0 0) millions ≡ 0 ∷ 0 ∷ 12 ∷ 12 ∷ []
unfolding noise_at within finite of_bits is_nan
noise_yy_ends = refl

pub systematic_xx_ends : map (λ (n : ℕ). number_of none (entries n 0 0) 0 0 0) largest ≡ 0 ∷ 0 ∷ 12 ∷ 12 ∷ 12 ∷ []
unfolding noise_at within finite of_bits is_nan
systematic_xx_ends = refl

pub systematic_xy_ends : map (λ (n : ℕ). number_of none (entries 0 n 0) 0 0 0) largest ≡ 0 ∷ 0 ∷ 12 ∷ 12 ∷ 12 ∷ []
unfolding noise_at within finite of_bits is_nan
systematic_xy_ends = refl

pub systematic_yy_ends : map (λ (n : ℕ). number_of none (entries 0 0 n) 0 0 0) largest ≡ 0 ∷ 0 ∷ 12 ∷ 12 ∷ 12 ∷ []
unfolding noise_at within finite of_bits is_nan
systematic_yy_ends = refl

pub growth_x_ends : map (λ (n : ℕ). number_of none none n 0 0) thousands ≡ 0 ∷ 0 ∷ 12 ∷ 12 ∷ []
unfolding noise_at within finite of_bits is_nan
growth_x_ends = refl

pub growth_y_ends : map (λ (n : ℕ). number_of none none 0 n 0) thousands ≡ 0 ∷ 0 ∷ 12 ∷ 12 ∷ []
unfolding noise_at within finite of_bits is_nan
growth_y_ends = refl

pub sigma_ends : map (λ (n : ℕ). number_of none none 0 0 n) thousands ≡ 0 ∷ 0 ∷ 12 ∷ 12 ∷ []
unfolding noise_at within finite of_bits is_nan
sigma_ends = refl

-- a NaN sigma is in its range, an infinite one is not
pub sigma_nan : number_of none none 0 0 0x7fc0_0000 ∷ number_of none none 0 0 0x7f80_0000 ∷ [] ≡ 0 ∷ 12 ∷ []
unfolding noise_at within finite of_bits is_nan
sigma_nan = refl

-- the total judges the same
abbrev total_number : PositionCovariance → PositionCovariance → ℕ → ℕ → ℕ → ℕ
total_number noise systematic k0 k1 sigma = number_in (total_at (parts noise systematic k0 k1) (float sigma))

pub total_ends : total_number (entries 0x4974_2400 0 0) (entries 0x7f7f_ffff 0 0) 0x447a_0000 0x447a_0000 0x447a_0000
    ∷ total_number (entries 0x4974_2401 0 0) none 0 0 0 ∷ total_number none (entries 0x7f80_0000 0 0) 0 0 0
    ∷ total_number none none 0x447a_0001 0 0 ∷ total_number none none 0 0x447a_0001 0 ∷ total_number none none 0 0 0x447a_0001 ∷ []
    ≡ 0 ∷ 12 ∷ 12 ∷ 12 ∷ 12 ∷ 12 ∷ []
unfolding total_at within finite of_bits is_nan
total_ends = refl
