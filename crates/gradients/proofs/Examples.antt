-- Worked cases: a support of three by three from (5, -7) on. Assumes nothing.
use mathlib.Core.Path.{◌≡◌, refl}
use mathlib.Core.Bool.{true, false}
use mathlib.Core.List.{List, [], ◌∷◌}
use Prim.Native.Nat.{ℕ}
use lib.IntN.{ℤ, pos, negsuc}
use lib.ListN.{get_or}
use lib.Ieee
use lib.Ieee.{Float, nan, inf, binary32, of_bits}
use Rattle.ieee.specs.Order.{finite}
use Rattle.ieee.specs.Numbers.{plus_zero}
use Rattle.ieee.specs.Convert.{convert}
use Rattle.std.specs.Prelude.{Result}
use Rattle.numbers.specs.Numbers.{number_in}
use Rattle.support.specs.Support.{after_state}
use Rattle.gram.specs.Gram.{product_sum}
use Rattle.gradients.specs.declared.PixelGradients.{PixelGradients}
use Rattle.gradients.specs.declared.Unchanged.{Unchanged}
use Rattle.gradients.specs.Gradients.{handed_state, cleared_state, cell, in_support, place_of, add_number, add_of, covariance_of}

abbrev three : PixelGradients
three = cleared_state (pos 5 ∷ negsuc 6 ∷ []) 3

-- rows first: (7, -7) is cell 2, (5, -6) is cell 3, (7, -6) is cell 5
pub cells : cell three (pos 5) (negsuc 6) ∷ cell three (pos 7) (negsuc 6) ∷ cell three (pos 5) (negsuc 5) ∷ cell three (pos 7) (negsuc 5) ∷ cell three (pos 7) (negsuc 4) ∷ []
    ≡ 0 ∷ 2 ∷ 3 ∷ 5 ∷ 8 ∷ []
cells = refl

-- each part of a pixel is judged
pub outside : in_support three (pos 7) (negsuc 4) ∷ in_support three (pos 8) (negsuc 4) ∷ in_support three (pos 7) (negsuc 3) ∷ in_support three (pos 4) (negsuc 4) ∷ in_support three (pos 7) (negsuc 7) ∷ []
    ≡ true ∷ false ∷ false ∷ false ∷ false ∷ []
outside = refl

-- each addend is judged, before the pixel
pub addends : add_number three (pos 4) (pos 0) (inf false ∷ plus_zero ∷ []) ∷ add_number three (pos 5) (negsuc 6) (plus_zero ∷ nan ∷ []) ∷ add_number three (pos 4) (pos 0) (plus_zero ∷ plus_zero ∷ []) ∷ []
    ≡ 12 ∷ 12 ∷ 11 ∷ []
unfolding place_of finite
addends = refl

-- (1, 2) added at (7, -7): 1 in gx and 2 in gy, at cell 2
abbrev sums : Result PixelGradients Unchanged → List Float
sums h = get_or (handed_state h).gx 2 nan ∷ get_or (handed_state h).gy 2 nan ∷ get_or (handed_state h).gx 1 nan ∷ []

pub addition : sums (add_of three (pos 7) (negsuc 6) (of_bits binary32 0x3f80_0000 ∷ of_bits binary32 0x4000_0000 ∷ []))
    ≡ of_bits binary32 0x3f80_0000 ∷ of_bits binary32 0x4000_0000 ∷ plus_zero ∷ []
unfolding add_of finite of_bits Ieee.add
addition = refl

-- the state is judged before the figure, and its origin before its side: a NaN gradient in a support from 1,000,001 on with side 33,
-- from 0 on with side 33, and with side 1
abbrev covariance_number : ℤ → ℕ → ℕ
covariance_number x side = number_in (covariance_of (record { origin = x ∷ pos 0 ∷ []; side = side; gx = nan ∷ []; gy = nan ∷ [] }))

pub state_first : covariance_number (pos 1000001) 33 ∷ covariance_number (pos 0) 33 ∷ covariance_number (pos 0) 1 ∷ [] ≡ 8 ∷ 10 ∷ 13 ∷ []
unfolding covariance_of after_state product_sum convert finite Ieee.add Ieee.mul
state_first = refl
