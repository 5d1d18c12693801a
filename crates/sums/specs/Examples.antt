-- Worked examples: each tells its definition from one that takes another order, rounding, bound or constant.
use Rattle.std.specs.Prelude.{◌≡◌, ℕ, true, false, cond, List, [], ◌∷◌, ◌==◌, refl, Float}
use Rattle.std.specs.Float.{binary32, binary64}
use Rattle.std.specs.Float.Ieee.{round, add, mul, div, lt, le, eq, is_nan, of_bits, of_int}
use Rattle.ieee.specs.Convert.{convert}
use Rattle.ieee.specs.Numbers.{plus_zero, f64_of}
use Rattle.ieee.specs.Order.{larger, total_less, negative}
use Rattle.laws.specs.Lists.{from}
use Rattle.quantile.specs.Quantile.{quiet}
use Rattle.sums.specs.Admitted.{threshold, cut, keeps, total_with, admitted_at}
use Rattle.sums.specs.Start.{mean, mean_quiet, start}

-- ---- the gate's threshold and the output's cut

-- a variance counts as 400 / 12 at least: 666 2/3 goes up to its f32, 533 1/3 goes down
pub least_variance : (threshold (f64_of 0) ≡ of_bits binary32 0x4426_AAAB) × (cut (f64_of 0) ≡ of_bits binary32 0x4405_5555)
unfolding threshold cut convert mul larger lt eq of_bits of_int round
least_variance = (refl, refl)

-- the f64 of 17,000,941 / 80, times 20, lies just above the middle of two f32. Rounded to f64 it is that middle and goes to the
-- even one, below; rounded to f32 at once it would go up. 19,694,087 / 32 times 16 is a middle and goes to the even one, above
pub half_way : (threshold (round binary64 false 17000941 80) ≡ of_bits binary32 0x4A81_B4F6)
    × (cut (round binary64 false 19694087 32) ≡ of_bits binary32 0x4B16_4104)
unfolding threshold cut convert mul larger lt eq of_bits of_int round
half_way = (refl, refl)

-- at a variance of 100 a gate of 2,000 is out, an output of 1,600 is in
pub on_both : (keeps (threshold (f64_of 100)) (cut (f64_of 100)) (f64_of 2000) (f64_of 0) ≡ false)
    × (keeps (threshold (f64_of 100)) (cut (f64_of 100)) (f64_of 1999) (f64_of 1600) ≡ true)
    × (keeps (threshold (f64_of 100)) (cut (f64_of 100)) (f64_of 0) (f64_of 1601) ≡ false)
unfolding threshold cut convert mul larger lt le eq of_int round
on_both = (refl, refl, refl)

-- the first variance is the gate's, the second the output's
pub each_its_own : admitted_at (f64_of 1999 ∷ f64_of 3999 ∷ []) (f64_of 3200 ∷ f64_of 1 ∷ []) (f64_of 100) (f64_of 200)
    ≡ total_with 1 (f64_of 3200)
unfolding threshold cut convert mul larger lt le eq add of_int round
each_its_own = refl

-- ---- blocks

-- 16,777,216 and 256 ones, of which the first is not admitted: the 254 ones of the first block are lost in f32, the one of the
-- second is not, in f64
abbrev gates : List Float
gates = from (λ (k : ℕ). cond (k == 1) (f64_of 20971520) (f64_of 0)) 0 257

abbrev squares : List Float
squares = from (λ (k : ℕ). cond (k == 0) (f64_of 16777216) (f64_of 1)) 0 257

pub blocks_apart : admitted_at gates squares (f64_of 1048576) (f64_of 1048576) ≡ total_with 256 (f64_of 16777217)
unfolding threshold cut convert mul larger lt le eq add of_int round
blocks_apart = refl

-- ---- the start

-- a gate at the quiet level is quiet: 10 and 20, not 40
pub quiet_mean : mean_quiet (f64_of 10 ∷ f64_of 40 ∷ f64_of 20 ∷ []) (f64_of 5 ∷ f64_of 6 ∷ f64_of 0 ∷ []) (f64_of 5) ≡ f64_of 15
unfolding mean_quiet mean lt le eq add div of_int round
quiet_mean = refl

pub quiet_none : mean_quiet (f64_of 10 ∷ []) (f64_of 6 ∷ []) (f64_of 5) ≡ plus_zero
unfolding mean_quiet mean lt le eq of_int round
quiet_none = refl

-- the quiet level of three gates is the least, and the start is no more than a mean
pub first_mean : start (f64_of 7 ∷ f64_of 9 ∷ f64_of 7 ∷ []) (f64_of 10 ∷ f64_of 40 ∷ f64_of 20 ∷ []) ≡ f64_of 15
unfolding start quiet mean_quiet mean total_less negative is_nan lt le eq add div of_int round
first_mean = refl

-- summed in f64 and divided by the count: 16,777,216, 1 and 0
pub mean_of_three : mean_quiet (f64_of 16777216 ∷ f64_of 1 ∷ f64_of 0 ∷ []) (f64_of 0 ∷ f64_of 0 ∷ f64_of 0 ∷ []) (f64_of 0)
    ≡ of_bits binary64 0x4155_5555_6AAA_AAAB
unfolding mean_quiet mean lt le eq add div of_bits of_int round
mean_of_three = refl
