-- The accumulator: reset, a gradient added, and the covariance. A refusal hands the state back as it was.
use Rattle.std.specs.Prelude.{ℕ, ◌+◌, ◌*◌, Bool, cond, not, ◌&&◌, List, [], ◌∷◌, ℤ, pos, nat_abs, ◌-ℤ◌, get_or, set, take, replicate, Float, Result, Ok, Err}
use Rattle.std.specs.Float.Ieee
use Rattle.std.specs.Float.{nan, binary32}
use Rattle.numbers.specs.declared.Number.{Number}
use Rattle.numbers.specs.declared.Number.TheVariants.{FloatRange, Outside}
use Rattle.numbers.specs.Numbers.{number_of, number_in}
use Rattle.ieee.specs.Order.{finite}
use Rattle.ieee.specs.Numbers.{plus_zero}
use Rattle.refine.specs.Covariance.{judged}
use Rattle.refine.specs.declared.PositionCovariance.{PositionCovariance}
use Rattle.gradients.specs.declared.PixelGradients.{PixelGradients}
use Rattle.gradients.specs.declared.Unchanged.{Unchanged}
use Rattle.support.specs.Support.{after_state, state_judged, in_side}
use Rattle.gram.specs.Gram.{gram}

-- every cell zero, those past the side too
abbrev pub cleared_state : List ℤ → ℕ → PixelGradients
cleared_state o side = record { origin = o; side = side; gx = replicate 1024 plus_zero; gy = replicate 1024 plus_zero }

abbrev pub empty : PixelGradients
empty = cleared_state (pos 0 ∷ pos 0 ∷ []) 0

-- a reason, and the state as it was
abbrev pub unchanged : Number → PixelGradients → Unchanged
unchanged why old = record { why = why; state = old }

-- what a value makes of the state; under a reason the old one
abbrev pub handed : {A : Type 0} → Result A Number → PixelGradients → (A → PixelGradients) → Result PixelGradients Unchanged
handed (Ok a) old new = Ok (new a)
handed (Err why) old new = Err (unchanged why old)

-- 8, 10 of the new origin and side only
unfoldable pub reset_of : PixelGradients → List ℤ → ℕ → Result PixelGradients Unchanged
unfolding after_state
reset_of s o side = handed (state_judged o side) s (λ _. cleared_state o side)

-- ---- what the desk reads of an answer

-- the number: 0 where the state is changed
abbrev pub handed_number : Result PixelGradients Unchanged → ℕ
handed_number (Ok s) = 0
handed_number (Err u) = number_of u.why

-- the state handed back
abbrev pub handed_state : Result PixelGradients Unchanged → PixelGradients
handed_state (Ok s) = s
handed_state (Err u) = u.state

-- ---- one pixel

-- the pixel lies in the support: in its columns and in its rows
abbrev pub in_support : PixelGradients → ℤ → ℤ → Bool
in_support s x y = in_side x (get_or s.origin 0 (pos 0)) s.side && in_side y (get_or s.origin 1 (pos 0)) s.side

-- its cell, row by row
abbrev pub cell : PixelGradients → ℤ → ℤ → ℕ
cell s x y = nat_abs (y -ℤ get_or s.origin 1 (pos 0)) * s.side + nat_abs (x -ℤ get_or s.origin 0 (pos 0))

abbrev pub both_finite : List Float → Bool
both_finite v = finite (get_or v 0 nan) && finite (get_or v 1 nan)

-- the cell; 8, 10 of the state; after that 12: an addend isn't finite; then 11: the pixel is outside the support
unfoldable pub place_of : PixelGradients → ℤ → ℤ → List Float → Result ℕ Number
unfolding after_state
place_of s x y v =
    after_state s.origin s.side
    (cond (not (both_finite v)) (Err FloatRange) (cond (not (in_support s x y)) (Err Outside) (Ok (cell s x y))))

abbrev pub add_number : PixelGradients → ℤ → ℤ → List Float → ℕ
add_number s x y v = number_in (place_of s x y v)

-- x added to the number k of l
abbrev pub add_at : List Float → ℕ → Float → List Float
add_at l k x = set l k (Ieee.add binary32 (get_or l k nan) x)

abbrev pub added : PixelGradients → ℕ → List Float → PixelGradients
added s k v =
    record { origin = s.origin; side = s.side; gx = add_at s.gx k (get_or v 0 nan); gy = add_at s.gy k (get_or v 1 nan) }

unfoldable pub add_of : PixelGradients → ℤ → ℤ → List Float → Result PixelGradients Unchanged
unfolding place_of
add_of s x y v = handed (place_of s x y v) s (λ k. added s k v)

-- ---- the support's cells

abbrev pub support_gram : PixelGradients → PositionCovariance
support_gram s = gram (take (s.side * s.side) s.gx) (take (s.side * s.side) s.gy)

-- 8, 10 of the state; after that 13: a component isn't finite
unfoldable pub covariance_of : PixelGradients → Result PositionCovariance Number
unfolding after_state
covariance_of s = after_state s.origin s.side (judged (support_gram s))
