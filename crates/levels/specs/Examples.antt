-- Values on which another cut or another quotient gives another number.
use Rattle.std.specs.Prelude.{◌≡◌, refl, List, [], ◌∷◌, map, Float}
use Rattle.std.specs.Float.{binary32}
use Rattle.std.specs.Float.Ieee.{of_bits, of_int, round, add, sub, mul, div, lt, le}
use Rattle.ieee.specs.Numbers.{f32_of}
use Rattle.ieee.specs.Order.{larger, smaller}
use Rattle.levels.specs.Levels.{mean_of, high_level, low_level}

-- a fifth of the range is 4: 16 and 4 lie on the cuts and count, 15 and 5 lie within a quarter and do not
abbrev six : List Float
six = map f32_of (0 ∷ 4 ∷ 5 ∷ 15 ∷ 16 ∷ 20 ∷ [])

pub cuts : (high_level six ≡ f32_of 18) × (low_level six ≡ f32_of 2)
unfolding high_level low_level of_int round add sub mul div lt le larger smaller
cuts = (refl, refl)

-- 5 / 3, not 5 × (1 / 3), which is 0x3fd5_5556; of one value that value, of none 0
pub means : (mean_of (map f32_of (5 ∷ 0 ∷ 0 ∷ [])) ≡ of_bits binary32 0x3fd5_5555)
    × (mean_of (f32_of 7 ∷ []) ≡ f32_of 7) × (mean_of [] ≡ f32_of 0)
unfolding of_bits of_int add div
means = (refl, refl, refl)
