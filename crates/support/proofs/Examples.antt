-- Worked cases: the ends of the origin's and the side's ranges, and of a support. Assumes nothing.
use mathlib.Core.Path.{◌≡◌, refl}
use mathlib.Core.Bool.{true, false}
use mathlib.Core.List.{List, [], ◌∷◌}
use Prim.Native.Nat.{ℕ}
use lib.IntN.{ℤ, pos, negsuc}
use Rattle.support.specs.Support.{after_state, state_number, in_side}

abbrev numbers : List ℤ → List ℤ → List ℤ → List ℕ
numbers p q r = state_number p 32 ∷ state_number q 32 ∷ state_number r 32 ∷ []

-- ±1,000,000 is taken, one more is 8, in either part
pub origin_ends : numbers (pos 1000000 ∷ negsuc 999999 ∷ []) (pos 1000001 ∷ pos 0 ∷ []) (negsuc 1000000 ∷ pos 0 ∷ []) ≡ 0 ∷ 8 ∷ 8 ∷ []
unfolding after_state
origin_ends = refl

pub origin_y_ends : numbers (negsuc 999999 ∷ pos 1000000 ∷ []) (pos 0 ∷ pos 1000001 ∷ []) (pos 0 ∷ negsuc 1000000 ∷ []) ≡ 0 ∷ 8 ∷ 8 ∷ []
unfolding after_state
origin_y_ends = refl

-- a side of 32 is taken, 33 is 10, and 8 comes first
pub side_ends : state_number (pos 0 ∷ pos 0 ∷ []) 32 ∷ state_number (pos 0 ∷ pos 0 ∷ []) 33 ∷ state_number (pos 1000001 ∷ pos 0 ∷ []) 33 ∷ [] ≡ 0 ∷ 10 ∷ 8 ∷ []
unfolding after_state
side_ends = refl

-- from origin -2 on three places: -3 is before them, -2 and 0 are in them, 1 is past them; side 0 has none
pub places : in_side (negsuc 2) (negsuc 1) 3 ∷ in_side (negsuc 1) (negsuc 1) 3 ∷ in_side (pos 0) (negsuc 1) 3 ∷ in_side (pos 1) (negsuc 1) 3 ∷ in_side (pos 0) (pos 0) 0 ∷ []
    ≡ false ∷ true ∷ true ∷ false ∷ false ∷ []
places = refl

-- the difference is that of whole numbers: at 32 bits this one would wrap to 1
pub no_wrap : in_side (negsuc 2147483647) (pos 2147483647) 32 ≡ false
no_wrap = refl
