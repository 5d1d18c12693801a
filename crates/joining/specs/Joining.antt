-- The joining of the bands: noise.rs, `noise_sigma`; document 01, "Joining".
use Rattle.std.specs.Prelude.{cond, List, [], ◌∷◌, ◌++◌, ℕ, zero, suc, ◌+◌, ◌-◌, ◌/◌, ◌%◌, eqb, ltb, length, Option, Some, None, Result, Ok, Err, Float}
use Rattle.std.specs.Float.{binary32, binary64}
use Rattle.std.specs.Float.Ieee.{add, mul, div, le}
use Rattle.ieee.specs.Convert.{convert}
use Rattle.ieee.specs.Order.{larger}
use Rattle.ieee.specs.Sqrt.{sqrt}
use Rattle.numbers.specs.declared.Number.{Number}
use Rattle.numbers.specs.declared.Number.TheVariants.{Few, NoBand, Thin}
use Rattle.laws.specs.Lists.{from}
use Rattle.quantile.specs.Rising.{at, rising}
use Rattle.ieee.specs.Numbers.{plus_zero, f64_of}
use Rattle.sums.specs.Numbers.{rounding_op_var}
use Rattle.sums.specs.Admitted.{total_with, no_total}
use Rattle.rounds.specs.Rounds.{band, band_variance, image_variance}
use Rattle.sums.specs.declared.Total.{Total}
use Rattle.rounds.specs.declared.Settled.{Settled}
use Rattle.rounds.specs.declared.Found.{Found}
use Rattle.rounds.specs.declared.BandVariance.{BandVariance}
use Rattle.joining.specs.Numbers.{max_band_outlier, operator_gain, half}
use Rattle.joining.specs.declared.Noise.{Noise}

-- ---- the variances that there are, and their median

abbrev pub variance_of : Option Found → List Float
variance_of (Some f) = f.var ∷ []
variance_of None = []

abbrev pub variances : List (Option Found) → List Float
variances [] = []
variances (f ∷ bands) = variance_of f ++ variances bands

-- of m numbers in rising order the middle one, or half the sum of the middle two
abbrev pub median_in : List Float → ℕ → Float
median_in l m = cond (eqb (m % 2) 1) (at l (m / 2)) (mul binary64 half (add binary64 (at l (m / 2 - 1)) (at l (m / 2))))

unfoldable pub median : List Float → Float
median vars = median_in (rising (at vars) (length vars)) (length vars)

-- ---- the bands that are joined

-- a band's variance is at most this
unfoldable pub outlier_limit : Float → Float
outlier_limit med = mul binary64 max_band_outlier (larger med rounding_op_var)

-- a band of n admitted windows joins, and adds its variance n times
abbrev pub with_band : Total → ℕ → Float → Total
with_band k n var = total_with (k.n + n) (add binary64 k.sum (mul binary64 (f64_of n) var))

abbrev pub with_found : Float → Total → Option Found → Total
with_found limit k (Some f) = cond (le f.var limit) (with_band k f.n f.var) k
with_found limit k None = k

-- k and then each band in turn
abbrev pub join_from : Float → Total → List (Option Found) → Total
join_from limit k [] = k
join_from limit k (f ∷ bands) = join_from limit (with_found limit k f) bands

unfoldable pub joined_bands : List (Option Found) → Total
joined_bands bands = join_from (outlier_limit (median (variances bands))) no_total bands

-- ---- the answer

-- MIN_SAMPLES
abbrev pub min_samples : ℕ
min_samples = 512

-- the root of the mean variance, over the operator's gain, rounded to f32
unfoldable pub deviation : Total → Float
deviation k = convert binary32 (div binary64 (sqrt binary64 (div binary64 k.sum (f64_of k.n))) operator_gain)

unfoldable pub sigma_of_total : Total → Result Float Number
sigma_of_total k = cond (ltb k.n min_samples) (Err Thin) (Ok (deviation k))

unfoldable pub sigma_of : List (Option Found) → Result Float Number
sigma_of bands = cond (eqb (length (variances bands)) 0) (Err NoBand) (sigma_of_total (joined_bands bands))

-- the variance of band b
abbrev pub band_at : List Float → List Float → List ℕ → Float → ℕ → BandVariance
band_at g o starts image b = band_variance (band g starts b) (band o starts b) image

abbrev pub founds : List Float → List Float → List ℕ → Float → List (Option Found)
founds g o starts image = from (λ (b : ℕ). (band_at g o starts image b).found) 0 4

-- the rounds of the first b bands
abbrev pub band_rounds : List Float → List Float → List ℕ → Float → ℕ → ℕ
band_rounds g o starts image zero = 0
band_rounds g o starts image (suc b) = band_rounds g o starts image b + (band_at g o starts image b).rounds

-- the image's rounds and then each band's, which are counted as evaluated
unfoldable pub noise_under : List Float → List Float → List ℕ → Settled → Noise
noise_under g o starts image =
    record { sigma = sigma_of (founds g o starts image.var); rounds = image.rounds + band_rounds g o starts image.var 4 }

unfoldable pub noise : List Float → List Float → List ℕ → Noise
noise g o starts =
    cond (ltb (length g) min_samples) (record { sigma = Err Few; rounds = 0 }) (noise_under g o starts (image_variance g o starts))

-- ---- document 01's sigma: zero unless its number, which is `number_in`, is 0

abbrev pub figure_of : Result Float Number → Float
figure_of (Ok s) = s
figure_of (Err why) = plus_zero
