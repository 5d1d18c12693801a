-- The systematic covariance of an estimate at an offset u from the centre of its fit window, line by line as
-- `SystematicModel::model` writes it.
use Rattle.std.specs.Prelude.{cond, List, Float}
use Rattle.std.specs.Float.Ieee.{le}
use Rattle.ieee.specs.Numbers.{plus_zero}
use Rattle.refine.specs.Covariance.{covariance}
use Rattle.refine.specs.declared.PositionCovariance.{PositionCovariance}
use Rattle.ranges.specs.Arith.{◌⊕◌, ◌⊖◌, ◌⊗◌, ◌⊘◌, at, twelve}

-- the variance of a quantity spread uniformly over an interval
abbrev pub uniform_variance : Float → Float
uniform_variance width = width ⊗ width ⊘ twelve

-- the square of an error by its transpose, and a spread on each axis
unfoldable pub about : Float → Float → Float → PositionCovariance
about ex ey spread = covariance (ex ⊗ ex ⊕ spread) (ex ⊗ ey) (ey ⊗ ey ⊕ spread)

-- from gain, residual, floor, offset and grid; the limit is where the estimate says nothing of the corner's place in its cell
unfoldable pub systematic : Float → Float → Float → List Float → Float → PositionCovariance
unfolding about
systematic g rho floor u grid =
    let prior = uniform_variance grid in
    let rho2 = rho ⊗ rho in
    let denom = g ⊗ g ⊗ prior ⊕ rho2 in
    let limit = le denom plus_zero in
    let shrink = g ⊗ prior ⊘ denom in
    let ex = cond limit (at u 0) (at u 0 ⊖ shrink ⊗ at u 0) in
    let ey = cond limit (at u 1) (at u 1 ⊖ shrink ⊗ at u 1) in
    let spread = cond limit prior (prior ⊗ rho2 ⊘ denom) ⊕ floor ⊗ floor in
    about ex ey spread
