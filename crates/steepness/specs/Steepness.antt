-- The gradient mean: half the mean of the roots of the eight largest squared gradients of 81.
use Rattle.std.specs.Prelude.{false, List, map, drop, Float}
use Rattle.std.specs.Float.{binary32}
use Rattle.std.specs.Float.Ieee.{mul, div, round}
use Rattle.ieee.specs.Sqrt.{sqrt}
use Rattle.quantile.specs.Rising.{at, rising}
use Rattle.ieee.specs.Numbers.{f32_of}
use Rattle.levels.specs.Levels.{summed}

-- the smallest of them first
unfoldable pub largest : List Float → List Float
largest g = drop 73 (rising (at g) 81)

-- the roots are added from the smallest up
unfoldable pub steepness : List Float → Float
steepness g = div binary32 (mul binary32 (round binary32 false 1 2) (summed (map (sqrt binary32) (largest g)))) (f32_of 8)
