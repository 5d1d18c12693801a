-- A position covariance: its three entries, the sum of two, and the refusal of one that is not finite.
use Rattle.std.specs.Prelude.{Bool, cond, ◌&&◌, Float, Result, Ok, Err}
use Rattle.std.specs.Float.Ieee
use Rattle.std.specs.Float.{binary32}
use Rattle.numbers.specs.declared.Number.{Number}
use Rattle.numbers.specs.declared.Number.TheVariants.{NotFinite}
use Rattle.ieee.specs.Numbers.{plus_zero}
use Rattle.ieee.specs.Order.{finite}
use Rattle.refine.specs.declared.PositionCovariance.{PositionCovariance}

abbrev pub covariance : Float → Float → Float → PositionCovariance
covariance xx xy yy = record { xx = xx; xy = xy; yy = yy }

abbrev pub zeros : PositionCovariance
zeros = covariance plus_zero plus_zero plus_zero

-- entry by entry, each sum rounded once
abbrev pub add_covariance : PositionCovariance → PositionCovariance → PositionCovariance
add_covariance c d =
    covariance (Ieee.add binary32 c.xx d.xx) (Ieee.add binary32 c.xy d.xy) (Ieee.add binary32 c.yy d.yy)

abbrev pub all_finite : PositionCovariance → Bool
all_finite c = (finite c.xx && finite c.xy) && finite c.yy

-- 13: an entry is not finite
abbrev pub judged : PositionCovariance → Result PositionCovariance Number
judged c = cond (all_finite c) (Ok c) (Err NotFinite)

-- what the desk reads as figures beside an answer's number: zeros where there are none
abbrev pub figures : Result PositionCovariance Number → PositionCovariance
figures (Ok c) = c
figures (Err why) = zeros
