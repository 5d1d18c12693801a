-- The constants of the formulas: the numbers that they are, and their f32 patterns. Assumes nothing.
use mathlib.Core.Path.{◌≡◌, refl}
use mathlib.Core.Bool.{false}
use lib.IntN.{pos, negsuc}
use lib.Ieee.{fin, binary32, of_bits, of_int, round}
use Rattle.ranges.specs.Arith.{one, twelve, twelfth}

pub one_is : one ≡ fin false 1 (pos 0)
unfolding of_int
one_is = refl

pub one_bits : of_bits binary32 0x3f80_0000 ≡ one
unfolding of_bits of_int
one_bits = refl

pub twelve_bits : of_bits binary32 0x4140_0000 ≡ twelve
unfolding of_bits of_int
twelve_bits = refl

-- 0xaaaaab * 2 ^ -27
pub twelfth_is : twelfth ≡ fin false 11184811 (negsuc 26)
unfolding round
twelfth_is = refl

pub twelfth_bits : of_bits binary32 0x3daa_aaab ≡ twelfth
unfolding of_bits round
twelfth_bits = refl
