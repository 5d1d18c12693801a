-- The limits at their ends.
use Rattle.std.specs.Prelude.{◌≡◌, refl, true, false, [], ◌∷◌, pos, negsuc}
use Rattle.limits.specs.Limits.{too_large, too_small, image_number, far, far_place}

-- 16,384 is taken, 4 is taken
pub largest_side : (too_large 16384 16384 ≡ false) × (too_large 16385 4 ≡ true) × (too_large 4 16385 ≡ true)
largest_side = (refl, refl, refl)

pub smallest_side : (too_small 4 4 ≡ false) × (too_small 3 4 ≡ true) × (too_small 4 3 ≡ true)
smallest_side = (refl, refl, refl)

-- 20,000 by 0 without a pixel is 1, whatever its length; 0 by 5 with one pixel is 2
pub image_numbers : (image_number 0 20000 0 ≡ 1) × (image_number 7 20000 0 ≡ 1) × (image_number 1 0 5 ≡ 2)
    × (image_number 675 26 26 ≡ 2) × (image_number 676 26 26 ≡ 0)
image_numbers = (refl, refl, refl, refl, refl)

-- 1,000,000 is near on both sides of 0
pub million : (far (pos 1000000) ≡ false) × (far (pos 1000001) ≡ true)
    × (far (negsuc 999999) ≡ false) × (far (negsuc 1000000) ≡ true)
million = (refl, refl, refl, refl)

-- both parts of a place are judged
pub both_parts : (far_place (pos 1000001 ∷ pos 0 ∷ []) ≡ true) × (far_place (pos 0 ∷ negsuc 1000000 ∷ []) ≡ true)
    × (far_place (pos 1000000 ∷ negsuc 999999 ∷ []) ≡ false)
both_parts = (refl, refl, refl)
