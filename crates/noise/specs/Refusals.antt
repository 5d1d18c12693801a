-- Why a noise call is refused: document 01, "Numbers the desk reads" and "Work memory".
use Rattle.std.specs.Prelude.{Bool, cond, ◌||◌, ℕ, ltb, eqb}
use Rattle.limits.specs.Limits.{too_small, image_number}
use Rattle.grid.specs.Needed.{needed_of}
use Rattle.pass.specs.Memory.{ints_for, floats_for}

-- number 4: a work slice is shorter than needed
abbrev pub short_of : ℕ → ℕ → ℕ → ℕ → Bool
short_of w h ints floats = ltb ints (ints_for (needed_of w h)) || ltb floats (floats_for (needed_of w h))

-- the first number that applies, 0 where none does: the image's, 3 where a side is small, 4 where memory is short
abbrev pub first_of : ℕ → Bool → Bool → ℕ
first_of image small short = cond (eqb image 0) (cond small 3 (cond short 4 0)) image

-- 1, 2, 3, 4 for an image of w by h with so many pixels, whose memory is too short or is not
unfoldable pub refusal_of : ℕ → ℕ → ℕ → Bool → ℕ
refusal_of pixels w h short = first_of (image_number pixels w h) (too_small w h) short
