-- Which tables of knots are taken, and what they give at a width.
use Rattle.std.specs.Prelude.{ℕ, ◌-◌, Bool, cond, not, ◌&&◌, List, leb, ltb, Float, Option, Result, Ok, Err}
use Rattle.numbers.specs.declared.Number.{Number}
use Rattle.numbers.specs.declared.Number.TheVariants.{Knots, FloatRange}
use Rattle.numbers.specs.Numbers.{number_in}
use Rattle.ieee.specs.Numbers.{plus_zero}
use Rattle.ranges.specs.Ranges.{up_to}
use Rattle.knots.specs.Places.{every, rises_at, knot_at, place, value_at}
use Rattle.model.specs.declared.SystematicModel.{SystematicModel}
use Rattle.model.specs.declared.GainResidual.{GainResidual}

-- a table of n knots
abbrev pub table : ℕ → Float → List Float → List Float → List Float → SystematicModel
table n f l g r = record { widths = l; gains = g; residuals = r; count = n; floor = f }

-- one to sixteen knots, each width above the one before it
abbrev pub rising_knots : SystematicModel → Bool
rising_knots s = (ltb 0 s.count && leb s.count 16) && every (rises_at s.widths) (s.count - 1)

-- the counted knots' numbers and the floor are in their ranges
abbrev pub knots_in_range : SystematicModel → Bool
knots_in_range s =
    ((every (knot_at s.widths) s.count && every (knot_at s.gains) s.count) && every (knot_at s.residuals) s.count)
    && up_to 1000 s.floor

-- 14: no knot, over 16, or widths that don't rise strictly; then 12; then what follows
unfoldable pub after_knots : {A : Type 0} → SystematicModel → Result A Number → Result A Number
after_knots s next = cond (not (rising_knots s)) (Err Knots) (cond (not (knots_in_range s)) (Err FloatRange) next)

-- what refuses the knots, if anything does
abbrev pub knots_judged : SystematicModel → Result Unit Number
knots_judged s = after_knots s (Ok tt)

-- 14, then 12, or 0
abbrev pub knots_number : SystematicModel → ℕ
knots_number s = number_in (knots_judged s)

abbrev pub gain_at : SystematicModel → Option Float → Float
gain_at s w = value_at s.gains (place s.widths s.count w)

abbrev pub residual_at : SystematicModel → Option Float → Float
residual_at s w = value_at s.residuals (place s.widths s.count w)

abbrev pub both_at : SystematicModel → Option Float → GainResidual
both_at s w = record { gain = gain_at s w; residual = residual_at s w }

unfoldable pub at_of : SystematicModel → Option Float → Result GainResidual Number
unfolding after_knots place value_at
at_of s w = after_knots s (Ok (both_at s w))

-- ---- what the desk reads as figures beside an answer's number: zeros where there are none

abbrev pub at_gain : Result GainResidual Number → Float
at_gain (Ok k) = k.gain
at_gain (Err why) = plus_zero

abbrev pub at_residual : Result GainResidual Number → Float
at_residual (Ok k) = k.residual
at_residual (Err why) = plus_zero
