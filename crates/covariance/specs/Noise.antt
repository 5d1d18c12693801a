-- The noise term of a covariance model at a noise sigma, and the whole of it.
use Rattle.std.specs.Prelude.{Bool, cond, not, ◌&&◌, Float, Result, Ok, Err}
use Rattle.std.specs.Float.{binary32}
use Rattle.ieee.specs.Order.{larger}
use Rattle.ieee.specs.Sqrt.{sqrt}
use Rattle.refine.specs.Covariance.{covariance, add_covariance, all_finite}
use Rattle.refine.specs.declared.PositionCovariance.{PositionCovariance}
use Rattle.numbers.specs.declared.Number.{Number}
use Rattle.numbers.specs.declared.Number.TheVariants.{FloatRange}
use Rattle.covariance.specs.declared.CovarianceModel.{CovarianceModel}
use Rattle.ranges.specs.Arith.{◌⊕◌, ◌⊗◌, at, one, twelfth}
use Rattle.ranges.specs.Ranges.{all_within, both_within, sigma_range}

-- the larger of sigma² and 1 / 12
abbrev pub noise_variance : Float → Float
noise_variance sigma = larger (sigma ⊗ sigma) twelfth

-- by how much an axis of growth k grows at a variance
unfoldable pub grown : Float → Float → Float
grown var k = sqrt binary32 (one ⊕ var ⊗ k ⊗ k)

unfoldable pub scaled : PositionCovariance → Float → Float → Float → PositionCovariance
scaled c var f0 f1 = covariance (var ⊗ c.xx ⊗ f0 ⊗ f0) (var ⊗ c.xy ⊗ f0 ⊗ f1) (var ⊗ c.yy ⊗ f1 ⊗ f1)

abbrev pub term_at : CovarianceModel → Float → PositionCovariance
term_at m var = scaled m.noise var (grown var (at m.growth 0)) (grown var (at m.growth 1))

abbrev pub noise_term : CovarianceModel → Float → PositionCovariance
noise_term m sigma = term_at m (noise_variance sigma)

abbrev pub whole_term : CovarianceModel → Float → PositionCovariance
whole_term m sigma = add_covariance (noise_term m sigma) m.systematic

-- the noise part, the systematic part, growth and sigma are in their ranges, used or not
abbrev pub model_in_range : CovarianceModel → Float → Bool
model_in_range m sigma =
    ((all_within 1000000 m.noise && all_finite m.systematic) && both_within 1000 m.growth) && sigma_range sigma

-- 12: one of them is not
unfoldable pub noise_at : CovarianceModel → Float → Result PositionCovariance Number
unfolding grown scaled
noise_at m sigma = cond (not (model_in_range m sigma)) (Err FloatRange) (Ok (noise_term m sigma))

unfoldable pub total_at : CovarianceModel → Float → Result PositionCovariance Number
unfolding grown scaled
total_at m sigma = cond (not (model_in_range m sigma)) (Err FloatRange) (Ok (whole_term m sigma))
