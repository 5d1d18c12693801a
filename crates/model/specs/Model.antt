-- The covariance model of an estimate, from its noise part, its offset, the edge width and the grid.
use Rattle.std.specs.Prelude.{ℕ, Bool, cond, not, ◌&&◌, List, [], ◌∷◌, Float, Option, Result, Ok, Err}
use Rattle.numbers.specs.declared.Number.{Number}
use Rattle.numbers.specs.declared.Number.TheVariants.{Knots, FloatRange, NotFinite}
use Rattle.numbers.specs.Numbers.{number_in}
use Rattle.ieee.specs.Numbers.{plus_zero}
use Rattle.refine.specs.Covariance.{zeros, all_finite}
use Rattle.refine.specs.declared.PositionCovariance.{PositionCovariance}
use Rattle.covariance.specs.declared.CovarianceModel.{CovarianceModel}
use Rattle.knots.specs.Places.{place, value_at}
use Rattle.ranges.specs.Ranges.{up_to, all_within, both_within}
use Rattle.model.specs.declared.SystematicModel.{SystematicModel}
use Rattle.model.specs.Knots.{rising_knots, knots_in_range, gain_at, residual_at}
use Rattle.model.specs.Systematic.{systematic}

-- what the knots, read at the width, make of it
abbrev pub systematic_at : SystematicModel → List Float → Option Float → Float → PositionCovariance
systematic_at s u w grid = systematic (gain_at s w) (residual_at s w) s.floor u grid

-- noise part, offset and grid are in their ranges
abbrev pub estimate_in_range : PositionCovariance → List Float → Float → Bool
estimate_in_range c u grid = (all_within 1000000 c && both_within 1000 u) && up_to 1000 grid

-- a model that doesn't grow
abbrev pub ungrown : PositionCovariance → PositionCovariance → CovarianceModel
ungrown c d = record { noise = c; systematic = d; growth = plus_zero ∷ plus_zero ∷ [] }

-- 14 of the knots; then 12: a float is outside its range; then 13: a component isn't finite
unfoldable pub model_of : SystematicModel → PositionCovariance → List Float → Option Float → Float → Result CovarianceModel Number
unfolding systematic place value_at
model_of s c u w grid =
    cond (not (rising_knots s)) (Err Knots)
    (cond (not (knots_in_range s && estimate_in_range c u grid)) (Err FloatRange)
    (cond (not (all_finite (systematic_at s u w grid))) (Err NotFinite)
    (Ok (ungrown c (systematic_at s u w grid)))))

abbrev pub model_number : SystematicModel → PositionCovariance → List Float → Option Float → Float → ℕ
model_number s c u w grid = number_in (model_of s c u w grid)

-- what the desk reads as a model beside an answer's number: zeros where there is none
abbrev pub model_shown : Result CovarianceModel Number → CovarianceModel
model_shown (Ok m) = m
model_shown (Err why) = ungrown zeros zeros
