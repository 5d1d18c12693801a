-- Worked examples: each tells a definition from its likely twins, such as one that rounds the other way or loses a sign.
-- `fin s m e` is m * 2 ^ e, negative where s is true, with an odd m.
use mathlib.Core.Path.{◌≡◌, refl}
use mathlib.Core.Bool.{true, false}
use lib.IntN.{pos, negsuc}
use lib.Ieee.{inf, fin, binary32, binary64, size, units, to_bits, of_bits}
use Rattle.ieee.specs.Convert.{convert}
use Rattle.ieee.specs.Sqrt.{sqrt}
use Rattle.ieee.specs.Floor.{floor}
use Rattle.ieee.specs.Order.{larger, smaller, magnitude, negative, finite}

-- 16,777,217 is a tie, and goes to 2 ^ 24; -16,777,219 is one, and goes to -16,777,220
pub convert_tie_down : convert binary32 (fin false 16777217 (pos 0)) ≡ fin false 1 (pos 24)
unfolding convert
convert_tie_down = refl

pub convert_tie_up : convert binary32 (fin true 16777219 (pos 0)) ≡ fin true 4194305 (pos 2)
unfolding convert
convert_tie_up = refl

-- the largest f32 is 16,777,215 * 2 ^ 104; half of its last digit more is an infinity
pub convert_largest : convert binary32 (fin false 0x1F_FFFF_DFFF_FFFF (pos 75)) ≡ fin false 16777215 (pos 104)
unfolding convert
convert_largest = refl

pub convert_over : convert binary32 (fin false 0x1FF_FFFF (pos 103)) ≡ inf false
unfolding convert
convert_over = refl

-- the roots of 2 and of 9 / 4
pub sqrt32_two : to_bits binary32 (sqrt binary32 (fin false 1 (pos 1))) ≡ 0x3FB5_04F3
unfolding sqrt to_bits units
sqrt32_two = refl

pub sqrt64_two : to_bits binary64 (sqrt binary64 (fin false 1 (pos 1))) ≡ 0x3FF6_A09E_667F_3BCD
unfolding sqrt to_bits units
sqrt64_two = refl

pub sqrt_exact : sqrt binary32 (fin false 9 (negsuc 1)) ≡ fin false 3 (negsuc 0)
unfolding sqrt units size
sqrt_exact = refl

-- 5 / 2, -5 / 2, 3 / 4, -3 / 4 and -3
pub floor_down : floor binary32 (fin false 5 (negsuc 0)) ≡ fin false 1 (pos 1)
unfolding floor
floor_down = refl

pub floor_below_zero : floor binary32 (fin true 5 (negsuc 0)) ≡ fin true 3 (pos 0)
unfolding floor
floor_below_zero = refl

pub floor_to_zero : floor binary32 (fin false 3 (negsuc 1)) ≡ fin false 0 (pos 0)
unfolding floor
floor_to_zero = refl

pub floor_to_minus_one : floor binary32 (fin true 3 (negsuc 1)) ≡ fin true 1 (pos 0)
unfolding floor
floor_to_minus_one = refl

pub floor_whole : floor binary32 (fin true 3 (pos 0)) ≡ fin true 3 (pos 0)
unfolding floor
floor_whole = refl

-- 1 and -2, in both orders
pub larger_first : larger (fin false 1 (pos 0)) (fin true 1 (pos 1)) ≡ fin false 1 (pos 0)
unfolding larger
larger_first = refl

pub larger_second : larger (fin true 1 (pos 1)) (fin false 1 (pos 0)) ≡ fin false 1 (pos 0)
unfolding larger
larger_second = refl

pub smaller_first : smaller (fin true 1 (pos 1)) (fin false 1 (pos 0)) ≡ fin true 1 (pos 1)
unfolding smaller
smaller_first = refl

pub smaller_second : smaller (fin false 1 (pos 0)) (fin true 1 (pos 1)) ≡ fin true 1 (pos 1)
unfolding smaller
smaller_second = refl

-- the largest f32 is finite
pub finite_largest : finite (of_bits binary32 0x7F7F_FFFF) ≡ true
unfolding finite of_bits
finite_largest = refl

-- -3 without its sign, and the signs of -0 and +0
pub magnitude_minus : magnitude (fin true 3 (pos 0)) ≡ fin false 3 (pos 0)
unfolding magnitude
magnitude_minus = refl

pub negative_minus_zero : negative (fin true 0 (pos 0)) ≡ true
unfolding negative
negative_minus_zero = refl

pub negative_plus_zero : negative (fin false 0 (pos 0)) ≡ false
unfolding negative
negative_plus_zero = refl
