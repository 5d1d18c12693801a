-- The code's float constants are the numbers that the definition names, rounded once.
use mathlib.Core.Path.{◌≡◌, refl}
use mathlib.Core.Bool.{false}
use lib.Ieee.{binary32, of_bits, of_int, round}
use Rattle.ieee.specs.Numbers.{f32_of}

pub half_is : of_bits binary32 0x3f00_0000 ≡ round binary32 false 1 2
unfolding of_bits round
half_is = refl

pub eight_is : of_bits binary32 0x4100_0000 ≡ f32_of 8
unfolding of_bits of_int
eight_is = refl
