-- The width of the edges on a smoothed square, and the answer of a tile: a width or document 01's number.
use Rattle.std.specs.Prelude.{ℕ, ◌^◌, cond, false, Float}
use Rattle.std.specs.Float.{binary32}
use Rattle.std.specs.Float.Ieee.{sub, mul, div, lt, round}
use Rattle.ieee.specs.Numbers.{f32_of}
use Rattle.ieee.specs.Sqrt.{sqrt}
use Rattle.levels.specs.Levels.{high_level, low_level}
use Rattle.steepness.specs.Steepness.{steepness}
use Rattle.disk.specs.Gradients.{values, gradients}
use Rattle.tile.specs.declared.EdgeWidth.{EdgeWidth}
use Rattle.tile.specs.declared.EdgeWidth.TheVariants.{Width, Refused}
use Rattle.numbers.specs.declared.Number.TheVariants.{Flat}

-- the source's constant, 3.14159265358979323846264338327950288 as an f32, and the root of twice it
abbrev pub pi : Float
pi = round binary32 false 314159265358979323846264338327950288 (10 ^ 35)

abbrev pub root_two_pi : Float
root_two_pi = sqrt binary32 (mul binary32 (f32_of 2) pi)

-- the contrast over the root times the gradient mean
abbrev pub edge_width_of : Float → Float → Float → Float
edge_width_of high low g = div binary32 (sub binary32 high low) (mul binary32 root_two_pi g)

-- flat, 9, where the gradient mean is zero
abbrev pub edge_of : (ℕ → ℕ → Float) → EdgeWidth
edge_of s =
    cond (lt (f32_of 0) (steepness (gradients s)))
    (Width (edge_width_of (high_level (values s)) (low_level (values s)) (steepness (gradients s))))
    (Refused Flat)
