-- Constants of the joining by the rule that gives them: the f64 nearest to the number. Their patterns stand beside them.
use Rattle.std.specs.Prelude.{◌≡◌, refl, false, Float}
use Rattle.std.specs.Float.{binary64}
use Rattle.std.specs.Float.Ieee.{of_bits, of_int, round}
use Rattle.ieee.specs.Numbers.{f64_of}

-- MAX_BAND_OUTLIER
abbrev pub max_band_outlier : Float
max_band_outlier = f64_of 3

pub max_band_outlier_bits : of_bits binary64 0x4008_0000_0000_0000 ≡ max_band_outlier
unfolding of_bits of_int round
max_band_outlier_bits = refl

-- OPERATOR_GAIN
abbrev pub operator_gain : Float
operator_gain = f64_of 20

pub operator_gain_bits : of_bits binary64 0x4034_0000_0000_0000 ≡ operator_gain
unfolding of_bits of_int round
operator_gain_bits = refl

-- 0.5
abbrev pub half : Float
half = round binary64 false 1 2

pub half_bits : of_bits binary64 0x3FE0_0000_0000_0000 ≡ half
unfolding of_bits round
half_bits = refl
