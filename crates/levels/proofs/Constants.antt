-- The code's float constants are the numbers that the definitions name, rounded once.
use mathlib.Core.Path.{◌≡◌, refl}
use mathlib.Core.Bool.{false}
use lib.Ieee.{binary32, of_bits, of_int, round}
use Rattle.ieee.specs.Numbers.{f32_of}

pub zero_is : of_bits binary32 0 ≡ f32_of 0
unfolding of_bits of_int
zero_is = refl

pub one_is : of_bits binary32 0x3f80_0000 ≡ f32_of 1
unfolding of_bits of_int
one_is = refl

pub fifth_is : of_bits binary32 0x3e4c_cccd ≡ round binary32 false 1 5
unfolding of_bits round
fifth_is = refl
