-- The nearest border pixel, at the ends and past them.
use Rattle.std.specs.Prelude.{◌≡◌, refl, List, [], ◌∷◌, ℕ, ℤ, pos, negsuc}
use Rattle.imageview.specs.Sample.{clamped, pixel}

pub ends : (clamped (negsuc 0) 5 ≡ 0) × (clamped (pos 0) 5 ≡ 0) × (clamped (pos 5) 5 ≡ 5) × (clamped (pos 6) 5 ≡ 5)
unfolding clamped
ends = (refl, refl, refl, refl)

-- 3 by 2: row 0 is 10, 11, 12, row 1 is 20, 21, 22
abbrev six : List ℕ
six = 10 ∷ 11 ∷ 12 ∷ 20 ∷ 21 ∷ 22 ∷ []

abbrev zeros : List ℤ
zeros = pos 0 ∷ pos 0 ∷ []

pub corners : (pixel six 3 2 zeros (negsuc 7) (negsuc 7) ≡ 10) × (pixel six 3 2 zeros (pos 9) (negsuc 7) ≡ 12)
    × (pixel six 3 2 zeros (negsuc 7) (pos 9) ≡ 20) × (pixel six 3 2 zeros (pos 9) (pos 9) ≡ 22)
unfolding pixel clamped
corners = (refl, refl, refl, refl)

-- the origin is added, x to x and y to y, before the nearest is taken; an image without a pixel gives 0
pub moved : (pixel six 3 2 (pos 1 ∷ pos 1 ∷ []) (pos 0) (pos 0) ≡ 21) × (pixel six 3 2 (pos 2 ∷ pos 0 ∷ []) (pos 0) (pos 0) ≡ 12)
    × (pixel six 3 2 (negsuc 9 ∷ pos 0 ∷ []) (pos 11) (pos 0) ≡ 11)
    × (pixel [] 0 2 zeros (pos 0) (pos 0) ≡ 0) × (pixel [] 3 0 zeros (pos 0) (pos 0) ≡ 0)
unfolding pixel clamped
moved = (refl, refl, refl, refl, refl)
