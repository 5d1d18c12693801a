-- The code's float constant is the number that the definition names, rounded once.
use mathlib.Core.Path.{◌≡◌, refl}
use lib.Ieee.{binary32, of_bits, of_int, round, mul}
use Rattle.ieee.specs.Sqrt.{sqrt}
use Rattle.tile.specs.Width.{root_two_pi}

pub root_is : of_bits binary32 0x4020_6c99 ≡ root_two_pi
unfolding of_bits of_int round mul sqrt
root_is = refl
