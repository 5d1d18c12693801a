-- Values on which another order, another rounding or another neighbour gives another number.
use Rattle.std.specs.Prelude.{◌≡◌, refl, ◌+◌, ◌*◌, ◌^◌, length, get_or}
use Rattle.std.specs.Float.{binary32}
use Rattle.std.specs.Float.Ieee.{of_bits, of_int, add, sub, mul}
use Rattle.ieee.specs.Numbers.{f32_of}
use Rattle.disk.specs.Disk.{disk}
use Rattle.disk.specs.Smoothing.{binomial, smoothed}
use Rattle.disk.specs.Gradients.{squares, squared_at}

-- past 2 ^ 24 the order of adding shows (pixels stay below it)
pub order : binomial (f32_of (2 ^ 23)) (f32_of 0) (f32_of 1) (f32_of (2 ^ 21 + 1)) (f32_of (2 ^ 22 + 1)) ≡ of_bits binary32 0x4ba0_0005
unfolding of_bits of_int add mul
order = refl

-- 0, 1, 4, 9, 16 down by 1, 4, 6, 4, 1 is 80, and 0 to 4 across is 32; a row further down it is 160
pub weights : (smoothed (λ y x. f32_of (y * y * x)) 0 0 ≡ f32_of (80 * 32))
    × (smoothed (λ y x. f32_of (y * y * x)) 1 0 ≡ f32_of (160 * 32))
unfolding of_int add mul
weights = (refl, refl)

-- rounded once, or without rounding the larger product, it is 0x4b82_e655
pub three_roundings : (squares (f32_of 97) (f32_of 4141) ≡ of_bits binary32 0x4b82_e654)
    × (squares (f32_of 4141) (f32_of 97) ≡ of_bits binary32 0x4b82_e654)
unfolding of_bits of_int add mul
three_roundings = (refl, refl)

-- neighbours on both sides: 2² + 200²
pub both_sides : squared_at (λ y x. f32_of (100 * y + x)) 5 5 ≡ f32_of 40004
unfolding of_int add sub mul
both_sides = refl

-- from row 1, column 6 to row 11, column 6
pub ends : (length disk ≡ 81) × (get_or disk 0 0 ≡ 1 * 17 + 6) × (get_or disk 80 0 ≡ 11 * 17 + 6)
unfolding disk
ends = (refl, refl, refl)
