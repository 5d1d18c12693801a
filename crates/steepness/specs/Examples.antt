-- Gradients on which another choice or another way of adding the roots gives another number.
use Rattle.std.specs.Prelude.{◌≡◌, refl, [], ◌∷◌, ◌++◌, map, replicate}
use Rattle.std.specs.Float.{binary32}
use Rattle.std.specs.Float.Ieee.{of_bits, of_int, round, add, mul, div, lt}
use Rattle.ieee.specs.Numbers.{f32_of}
use Rattle.ieee.specs.Order.{total_less}
use Rattle.ieee.specs.Sqrt.{sqrt}
use Rattle.steepness.specs.Steepness.{largest, steepness}

-- Of nine gradients the smallest is left out. The roots rounded and added from the smallest up, the half and the eighth give
-- another number than roots from the largest down, as they stand, in pairs or in f64, the root of the mean square, seven or nine.
pub roots : steepness (map f32_of (replicate 72 0 ++ (1 ∷ 8 ∷ 6 ∷ 4 ∷ 3 ∷ 12 ∷ 10 ∷ 3 ∷ 11 ∷ []))) ≡ of_bits binary32 0x3fa5_7aee
unfolding steepness largest of_bits of_int round add mul div lt sqrt total_less
roots = refl
