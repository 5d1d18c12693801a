-- The code's float constants are the numbers that the definitions name, rounded once.
use mathlib.Core.Path.{◌≡◌, refl}
use lib.Ieee.{binary32, of_bits, of_int}
use Rattle.ieee.specs.Numbers.{f32_of}

pub four_is : of_bits binary32 0x4080_0000 ≡ f32_of 4
unfolding of_bits of_int
four_is = refl

pub six_is : of_bits binary32 0x40c0_0000 ≡ f32_of 6
unfolding of_bits of_int
six_is = refl
