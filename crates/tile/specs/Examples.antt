-- The constants' patterns, and values on which another quotient or another offset gives another number.
use Rattle.std.specs.Prelude.{◌≡◌, refl, List, [], ◌∷◌, ℕ, ℤ, pos, negsuc}
use Rattle.std.specs.Float.{binary32}
use Rattle.std.specs.Float.Ieee.{of_bits, of_int, round, sub, mul, div}
use Rattle.laws.specs.Lists.{from}
use Rattle.ieee.specs.Numbers.{f32_of}
use Rattle.ieee.specs.Sqrt.{sqrt}
use Rattle.numbers.specs.Numbers.{number_in}
use Rattle.imageview.specs.Sample.{clamped, pixel}
use Rattle.tile.specs.Refusal.{refusal}
use Rattle.tile.specs.Tile.{tile}
use Rattle.tile.specs.Width.{pi, root_two_pi, edge_width_of}

pub patterns : (pi ≡ of_bits binary32 0x4049_0fdb) × (root_two_pi ≡ of_bits binary32 0x4020_6c99)
unfolding of_bits of_int round mul sqrt
patterns = (refl, refl)

-- One quotient by one product: two quotients, a difference of quotients and a quotient or a root in f64 differ in the first,
-- a product with 1 over it in the second.
pub quotients : (edge_width_of (f32_of 3) (f32_of 1) (f32_of 3) ≡ of_bits binary32 0x3e88_2c1b)
    × (edge_width_of (f32_of 4) (f32_of 1) (f32_of 1) ≡ of_bits binary32 0x3f99_319f)
unfolding of_bits of_int round sub mul div sqrt
quotients = (refl, refl)

-- 20 pixels 0 to 19 in one row, and in one column, about place 9: places 1 to 17, 8 on either side
abbrev twenty : List ℕ
twenty = from (λ k. k) 0 20

abbrev nine : List ℤ
nine = pos 9 ∷ pos 9 ∷ []

abbrev zeros : List ℤ
zeros = pos 0 ∷ pos 0 ∷ []

pub reach : (tile twenty 20 1 zeros nine 3 0 ≡ f32_of 1) × (tile twenty 20 1 zeros nine 3 16 ≡ f32_of 17)
    × (tile twenty 1 20 zeros nine 0 3 ≡ f32_of 1) × (tile twenty 1 20 zeros nine 16 3 ≡ f32_of 17)
unfolding pixel clamped
reach = (refl, refl, refl, refl)

-- the origin is added to the centre, x to x
pub moved : (tile twenty 20 1 (pos 2 ∷ pos 5 ∷ []) nine 8 8 ≡ f32_of 11)
    × (tile twenty 1 20 (pos 2 ∷ negsuc 4 ∷ []) nine 8 8 ≡ f32_of 4)
unfolding pixel clamped
moved = (refl, refl)

-- a side too large before a length, both before a far place
pub first : (number_in (refusal 7 20000 0 zeros (pos 1000001 ∷ pos 0 ∷ [])) ≡ 1)
    × (number_in (refusal 7 2 3 zeros (pos 1000001 ∷ pos 0 ∷ [])) ≡ 2)
    × (number_in (refusal 6 2 3 zeros (pos 1000001 ∷ pos 0 ∷ [])) ≡ 8)
    × (number_in (refusal 6 2 3 (pos 0 ∷ negsuc 1000000 ∷ []) zeros) ≡ 8)
    × (number_in (refusal 6 2 3 zeros zeros) ≡ 0)
unfolding refusal
first = (refl, refl, refl, refl, refl)
