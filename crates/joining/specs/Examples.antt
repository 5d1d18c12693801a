-- Worked examples: each tells its definition from one that takes another order, rounding, bound or constant.
use Rattle.std.specs.Prelude.{◌≡◌, refl, false, List, [], ◌∷◌, ℕ, Option, Some, None, Ok, Err, Float}
use Rattle.std.proofs.Common.{◌∙◌}
use Rattle.std.specs.Float.{binary32, binary64}
use Rattle.std.specs.Float.Ieee.{round, add, sub, neg, mul, div, lt, le, eq, is_nan, of_bits, of_int}
use Rattle.ieee.specs.Convert.{convert}
use Rattle.ieee.specs.Numbers.{plus_zero, f64_of}
use Rattle.ieee.specs.Order.{larger, magnitude, total_less, negative}
use Rattle.ieee.specs.Sqrt.{sqrt}
use Rattle.numbers.specs.declared.Number.TheVariants.{Few, NoBand, Thin}
use Rattle.laws.specs.Lists.{from}
use Rattle.quantile.specs.Quantile.{quiet}
use Rattle.sums.specs.Admitted.{total_with, no_total, threshold, cut}
use Rattle.sums.specs.Start.{mean, mean_quiet, start}
use Rattle.sums.specs.declared.Total.{Total}
use Rattle.rounds.specs.Rounds.{next, near, settled_at, one_round, max_rounds, settle, found_at, judged_band, band_variance}
use Rattle.rounds.specs.declared.Found.{Found}
use Rattle.joining.specs.Joining.{median, outlier_limit, with_band, joined_bands, deviation, sigma_of_total, sigma_of, noise, noise_under}
use Rattle.joining.specs.declared.Noise.{Noise}

abbrev total : ℕ → ℕ → Total
total n sum = total_with n (f64_of sum)

-- a band of n windows with that variance
abbrev band : ℕ → Float → Option Found
band n var = Some (found_at n var)

abbrev thirds : ℕ → Float
thirds n = round binary64 false n 3

-- ---- the median

-- of one, of two, of three and of four
pub medians : (median (f64_of 9 ∷ []) ≡ f64_of 9) × (median (f64_of 300 ∷ f64_of 100 ∷ []) ≡ of_bits binary64 0x4069_0000_0000_0000)
    × (median (f64_of 7 ∷ f64_of 3 ∷ f64_of 5 ∷ []) ≡ f64_of 5)
    × (median (f64_of 8 ∷ f64_of 2 ∷ f64_of 4 ∷ f64_of 100 ∷ []) ≡ of_bits binary64 0x4018_0000_0000_0000)
unfolding median total_less negative is_nan lt eq add mul of_bits of_int round
medians = (refl, refl, refl, refl)

-- of 1 / 3 and 1: their sum is rounded to f64 and then halved
pub half_the_sum : median (f64_of 1 ∷ thirds 1 ∷ []) ≡ of_bits binary64 0x3FE5_5555_5555_5555
unfolding median total_less negative is_nan lt eq add mul of_bits of_int round
half_the_sum = refl

-- ---- the bands that are joined

-- a median counts as 400 / 12 at least: three times the f64 400 / 12
pub least_median : outlier_limit (f64_of 0) ≡ of_bits binary64 0x4059_0000_0000_0000
unfolding outlier_limit larger lt eq mul of_bits of_int round
least_median = refl

-- three bands at a median, and one of 150 windows beside them
abbrev beside : Float → Float → List (Option Found)
beside med var = band 600 med ∷ band 200 med ∷ band 150 med ∷ band 150 var ∷ []

-- the limit is 3 times the median, 100: a band at 300 joins, one at 301 does not
pub at_the_limit : (joined_bands (beside (f64_of 100) (f64_of 300))).n ≡ 1100
unfolding joined_bands outlier_limit median total_less negative is_nan larger lt le eq add mul of_int round
at_the_limit = refl

pub past_the_limit : (joined_bands (beside (f64_of 100) (f64_of 301))).n ≡ 950
unfolding joined_bands outlier_limit median total_less negative is_nan larger lt le eq add mul of_int round
past_the_limit = refl

-- the product is rounded, to 104 and to 103: a band at 104 joins, one at the f64 after 103 does not
pub limit_rounded : ((joined_bands (beside (thirds 104) (f64_of 104))).n ≡ 1100)
    × ((joined_bands (beside (thirds 103) (of_bits binary64 0x4059_C000_0000_0001))).n ≡ 950)
unfolding joined_bands outlier_limit median total_less negative is_nan larger lt le eq add mul of_bits of_int round
limit_rounded = (refl, refl)

-- a band without a variance does not count; at a median of 10 a band at 99 joins, since the limit is 100 at least
pub missing : (joined_bands (band 300 (f64_of 10) ∷ None ∷ band 300 (f64_of 99) ∷ band 150 (f64_of 10) ∷ [])).n ≡ 750
unfolding joined_bands outlier_limit median total_less negative is_nan larger lt le eq add mul of_int round
missing = refl

-- each band adds its variance times its count, rounded, in the bands' order
pub in_band_order : joined_bands (band 300 (thirds 278) ∷ band 500 (thirds 157) ∷ None ∷ band 200 (thirds 262) ∷ [])
    ≡ total_with 1000 (of_bits binary64 0x40F1_7095_5555_5556)
unfolding joined_bands outlier_limit median total_less negative is_nan larger lt le eq add mul of_bits of_int round
in_band_order = refl

-- ---- the deviation

-- a variance of 400 on 512 windows is a deviation of 1
pub one_level : deviation (total 512 204800) ≡ f64_of 1
unfolding deviation sqrt convert div of_bits of_int round
one_level =
    let figure : deviation (total 512 204800) ≡ of_bits binary32 0x3F80_0000 = refl in
    let whole : of_bits binary32 0x3F80_0000 ≡ f64_of 1 = refl in
    figure ∙ whole

-- one band of n windows whose squared outputs sum to a number: each figure lies so near the middle of two f32 that another order
-- of root and quotients, or one rounding less or more, gives the other
abbrev one_band : ℕ → ℕ → Float
one_band n sum = deviation (with_band no_total n (next (total n sum)))

pub root_then_gain : (one_band 2729 3005195 ≡ of_bits binary32 0x3FD4_7E88) × (one_band 1002 18249791 ≡ of_bits binary32 0x40D8_0BF8)
    × (one_band 528 23179975 ≡ of_bits binary32 0x4127_B614)
unfolding deviation next sqrt convert add mul div of_bits of_int round
root_then_gain = (refl, refl, refl)

pub gain_divides : (one_band 570 33063839 ≡ of_bits binary32 0x4140_C7AB) × (one_band 618 6904888 ≡ of_bits binary32 0x40A9_36D4)
unfolding deviation next sqrt convert add mul div of_bits of_int round
gain_divides = (refl, refl)

pub weight_divides : (one_band 1689 26734492 ≡ of_bits binary32 0x40C9_681B)
    × (one_band 2622 145037895 ≡ of_bits binary32 0x413C_4158)
unfolding deviation next sqrt convert add mul div of_bits of_int round
weight_divides = (refl, refl)

-- ---- the answer

-- 511 windows joined are too few, 512 are not; no band with a variance is another matter
pub numbers : (sigma_of_total (total 511 0) ≡ Err Thin) × (sigma_of_total (total 512 0) ≡ Ok plus_zero)
    × (sigma_of (None ∷ None ∷ None ∷ None ∷ []) ≡ Err NoBand)
unfolding sigma_of_total deviation sigma_of sqrt convert div of_int round
numbers = (refl, refl, refl)

-- n windows of gate and output 0 in band 0, and none in the others
abbrev zeros : ℕ → List Float
zeros n = from (λ (k : ℕ). f64_of 0) 0 n

abbrev in_band0 : ℕ → List ℕ
in_band0 n = 0 ∷ n ∷ n ∷ n ∷ n ∷ []

pub few : noise (zeros 511) (zeros 511) (in_band0 511) ≡ record { sigma = Err Few; rounds = 0 }
unfolding noise
few = refl

-- after three rounds for the image, one for a band of 128 windows and none for an empty band
pub four_rounds : noise_under (zeros 128) (zeros 128) (in_band0 128) (settled_at 128 (f64_of 0) 3)
    ≡ record { sigma = Err Thin; rounds = 4 }
unfolding noise_under sigma_of sigma_of_total joined_bands outlier_limit median band_variance judged_band settle max_rounds one_round next near start quiet mean_quiet mean
    threshold cut convert total_less negative is_nan larger magnitude sub neg add mul div lt le eq of_int round
four_rounds = refl

-- the same where the 128 windows stand in band 1, 2 or 3 and none in the others
abbrev from128 : List ℕ → Noise
from128 starts = noise_under (zeros 128) (zeros 128) starts (settled_at 128 (f64_of 0) 3)

pub each_band : (from128 (0 ∷ 0 ∷ 128 ∷ 128 ∷ 128 ∷ []) ≡ record { sigma = Err Thin; rounds = 4 })
    × (from128 (0 ∷ 0 ∷ 0 ∷ 128 ∷ 128 ∷ []) ≡ record { sigma = Err Thin; rounds = 4 })
    × (from128 (0 ∷ 0 ∷ 0 ∷ 0 ∷ 128 ∷ []) ≡ record { sigma = Err Thin; rounds = 4 })
unfolding noise_under sigma_of sigma_of_total joined_bands outlier_limit median band_variance judged_band settle max_rounds one_round next near start quiet mean_quiet mean
    threshold cut convert total_less negative is_nan larger magnitude sub neg add mul div lt le eq of_int round
each_band = (refl, refl, refl)

-- four bands of 128 windows are joined to 512, and each has its round
pub all_bands : noise_under (zeros 512) (zeros 512) (0 ∷ 128 ∷ 256 ∷ 384 ∷ 512 ∷ []) (settled_at 512 (f64_of 0) 3)
    ≡ record { sigma = Ok plus_zero; rounds = 7 }
unfolding noise_under sigma_of sigma_of_total deviation sqrt joined_bands outlier_limit median band_variance judged_band settle max_rounds one_round next near start quiet
    mean_quiet mean threshold cut convert total_less negative is_nan larger magnitude sub neg add mul div lt le eq of_int round
all_bands = refl

-- a band's two rounds count also where it has no variance in the end: one of about 1,001, above 8 times the image's 100
pub rounds_without_variance : noise_under (zeros 128) (from (λ (k : ℕ). f64_of 1000) 0 128) (in_band0 128) (settled_at 128 (f64_of 100) 3)
    ≡ record { sigma = Err NoBand; rounds = 5 }
unfolding noise_under sigma_of band_variance judged_band settle max_rounds one_round next near start quiet mean_quiet mean threshold cut convert total_less
    negative is_nan larger magnitude sub neg add mul div lt le eq of_int round
rounds_without_variance = refl
