-- Worked examples: each tells its definition from one that takes another order, rounding, bound or constant.
use Rattle.std.specs.Prelude.{◌≡◌, refl, true, false, cond, List, [], ◌∷◌, ℕ, Some, None, Float}
use Rattle.std.specs.Float.{binary64}
use Rattle.std.specs.Float.Ieee.{round, add, sub, mul, div, neg, lt, le, eq, is_nan, of_bits, of_int}
use Rattle.ieee.specs.Convert.{convert}
use Rattle.ieee.specs.Numbers.{f64_of}
use Rattle.ieee.specs.Order.{larger, magnitude, total_less, negative}
use Rattle.laws.specs.Lists.{from}
use Rattle.quantile.specs.Quantile.{quiet}
use Rattle.sums.specs.Admitted.{total_with, threshold, cut}
use Rattle.sums.specs.Start.{mean, mean_quiet, start}
use Rattle.sums.specs.declared.Total.{Total}
use Rattle.rounds.specs.Rounds.{next, near, settled_at, round_of, one_round, max_rounds, settle, found_at, judged_band}
use Rattle.rounds.specs.Rounds.{band_variance, image_total, image_variance}
use Rattle.rounds.specs.declared.BandVariance.{BandVariance}

-- n windows that sum to a whole number
abbrev total : ℕ → ℕ → Total
total n sum = total_with n (f64_of sum)

-- ---- a round

-- 5 over 3 windows, over 0.998929: divided twice, in this order
pub third : next (total 3 5) ≡ of_bits binary64 0x3FFA_B1FC_61AE_EBCD
unfolding next div of_bits of_int round
third = refl

-- as many windows as before settle; else the variance moves up or down, by a thousandth of the one before at most
pub nearness : (near 5 5 (f64_of 1002) (f64_of 1000) ≡ true) × (near 5 4 (f64_of 1002) (f64_of 1000) ≡ false)
    × (near 5 4 (f64_of 1001) (f64_of 1000) ≡ true) × (near 5 4 (f64_of 999) (f64_of 1000) ≡ true)
    × (near 5 4 (f64_of 10010005) (f64_of 10000000) ≡ false) × (near 5 4 (f64_of 1) (f64_of 1000) ≡ false)
    × (near 5 4 (f64_of 100100000001) (f64_of 100000000000) ≡ false)
unfolding near sub add neg mul lt le eq magnitude of_int round
nearness = (refl, refl, refl, refl, refl, refl, refl)

-- 0.001 times the one before is rounded: 7,999,999,999,999.999 stays below a move of 8 · 10^12, and 8,799,999,999,999.999 goes up
-- to one of 8.8 · 10^12
pub product_rounded : (near 5 4 (f64_of 8007999999999999) (f64_of 7999999999999999) ≡ false)
    × (near 5 4 (f64_of 8808799999999999) (f64_of 8799999999999999) ≡ true)
unfolding near sub add neg mul lt le eq magnitude of_int round
product_rounded = (refl, refl)

-- the variance of a round that settles is the new one: 998,929 over 500 windows yields 2,000, which is near 1,999
pub new_one : one_round (total 500 998929) (settled_at 7 (f64_of 1999) 3)
    ≡ round_of (settled_at 500 (of_bits binary64 0x409F_4000_0000_0000) 4) true
unfolding one_round next near sub add neg mul div lt le eq magnitude of_bits of_int round
new_one = refl

-- ---- rounds

-- a flat lid settles in its first round
pub flat : settle (λ (v : Float). total 529 0) (f64_of 0) ≡ settled_at 529 (f64_of 0) 1
unfolding settle max_rounds one_round next near sub add neg mul div lt le eq magnitude of_int round
flat = refl

-- a round that admits none is one too, and keeps the variance
pub none : settle (λ (v : Float). total 0 0) (f64_of 7) ≡ settled_at 0 (f64_of 7) 1
unfolding settle max_rounds one_round
none = refl

-- 998,929 over 1,000,000 windows yields 1; the second round settles, since as many are admitted
pub second : settle (λ (v : Float). total 1000000 998929) (f64_of 9) ≡ settled_at 1000000 (f64_of 1) 2
unfolding settle max_rounds one_round next near sub add neg mul div lt le eq magnitude of_int round
second = refl

-- two variances that yield each other, on other counts, use up twelve rounds
abbrev swaps : Float → Total
swaps v = cond (lt v (f64_of 10)) (total 1000 99892900) (total 1000000 998929)

pub twelve : settle swaps (f64_of 0) ≡ settled_at 1000000 (f64_of 1) 12
unfolding settle max_rounds one_round next near sub add neg mul div lt le eq magnitude of_int round
twelve = refl

-- ---- a band

-- on 128 windows a variance counts, on 127 it does not; at 8 times the image's it counts, above it does not
pub judgements : (judged_band (settled_at 128 (f64_of 800) 3) (f64_of 100) ≡ Some (found_at 128 (f64_of 800)))
    × (judged_band (settled_at 127 (f64_of 800) 3) (f64_of 100) ≡ None)
    × (judged_band (settled_at 128 (f64_of 801) 3) (f64_of 100) ≡ None)
unfolding judged_band mul lt larger of_int round
judgements = (refl, refl, refl)

-- the image's counts as 400 / 12 at least: 3200 / 12 counts, the f64 after it does not
abbrev least_image : Float
least_image = round binary64 false 3200 12

pub least_judgement : (judged_band (settled_at 128 least_image 3) (f64_of 0) ≡ Some (found_at 128 least_image))
    × (judged_band (settled_at 128 (of_bits binary64 0x4070_AAAA_AAAA_AAAC) 3) (f64_of 0) ≡ None)
unfolding judged_band mul lt larger of_bits of_int round
least_judgement = (refl, refl)

-- a band of 127 windows has no variance and no rounds, one of 128 has both
abbrev flat_band : ℕ → BandVariance
flat_band n = band_variance (from (λ (k : ℕ). f64_of 0) 0 n) (from (λ (k : ℕ). f64_of 0) 0 n) (f64_of 0)

pub few_windows : flat_band 127 ≡ record { found = None; rounds = 0 }
unfolding band_variance
few_windows = refl

pub enough_windows : flat_band 128 ≡ record { found = Some (found_at 128 (f64_of 0)); rounds = 1 }
unfolding band_variance judged_band settle max_rounds one_round next near start quiet mean_quiet mean threshold cut convert total_less negative is_nan larger
    magnitude sub neg add mul div lt le eq of_int round
enough_windows = refl

-- a band's rounds count also where it has no variance in the end: 128 windows of output 1,000 under an image of 100, and 128 of
-- output 10 of which the first one's gate keeps it out, settle in their second round
abbrev same_outputs : Float → ℕ → Float → BandVariance
same_outputs first-gate output image =
    band_variance (first-gate ∷ from (λ (k : ℕ). f64_of 0) 0 127) (from (λ (k : ℕ). f64_of output) 0 128) image

pub rounds_without_variance : (same_outputs (f64_of 0) 1000 (f64_of 100) ≡ record { found = None; rounds = 2 })
    × (same_outputs (f64_of 1000) 10 (f64_of 100) ≡ record { found = None; rounds = 2 })
unfolding band_variance judged_band settle max_rounds one_round next near start quiet mean_quiet mean threshold cut convert total_less negative is_nan larger
    magnitude sub neg add mul div lt le eq of_int round
rounds_without_variance = (refl, refl)

-- ---- the image

-- each of the four bands has a block of its own: in f32 16,777,216 and three ones make 16,777,216
abbrev quiet_gates : List Float
quiet_gates = f64_of 0 ∷ f64_of 0 ∷ f64_of 0 ∷ f64_of 0 ∷ []

abbrev squares : List Float
squares = f64_of 16777216 ∷ f64_of 1 ∷ f64_of 1 ∷ f64_of 1 ∷ []

pub four_bands : image_total quiet_gates squares (0 ∷ 1 ∷ 2 ∷ 3 ∷ 4 ∷ []) (f64_of 1048576) ≡ total_with 4 (f64_of 16777219)
unfolding image_total threshold cut convert larger mul add lt le eq of_int round
four_bands = refl

-- the start is that of all gates, of which the quietest is in band 1: 0, which admits only its own window. Band 0's own start,
-- 3,600, would admit both
pub start_of_all : image_variance (f64_of 5 ∷ f64_of 0 ∷ []) (f64_of 3600 ∷ f64_of 0 ∷ []) (0 ∷ 1 ∷ 2 ∷ 2 ∷ 2 ∷ [])
    ≡ settled_at 1 (f64_of 0) 1
unfolding image_variance image_total settle max_rounds one_round next near start quiet mean_quiet mean threshold cut convert total_less negative is_nan larger
    magnitude sub neg add mul div lt le eq of_int round
start_of_all = refl
