-- Constants of the rounds by the rule that gives them: the f64 nearest to the number. Their patterns stand beside them.
use Rattle.std.specs.Prelude.{◌≡◌, refl, false, Float}
use Rattle.std.specs.Float.{binary64}
use Rattle.std.specs.Float.Ieee.{of_bits, of_int, round}
use Rattle.ieee.specs.Numbers.{f64_of}

-- MAX_BAND_RATIO
abbrev pub max_band_ratio : Float
max_band_ratio = f64_of 8

pub max_band_ratio_bits : of_bits binary64 0x4020_0000_0000_0000 ≡ max_band_ratio
unfolding of_bits of_int round
max_band_ratio_bits = refl

-- SETTLED
abbrev pub settled_fraction : Float
settled_fraction = round binary64 false 1 1000

pub settled_fraction_bits : of_bits binary64 0x3F50_624D_D2F1_A9FC ≡ settled_fraction
unfolding of_bits round
settled_fraction_bits = refl

-- TRUNC_SECOND_MOMENT
abbrev pub trunc_second_moment : Float
trunc_second_moment = round binary64 false 998929 1000000

pub trunc_second_moment_bits : of_bits binary64 0x3FEF_F739_F340_D4DC ≡ trunc_second_moment
unfolding of_bits round
trunc_second_moment_bits = refl
