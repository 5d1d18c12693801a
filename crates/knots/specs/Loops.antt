-- What the code's loops and reads need alone: the tests of all knots as one, and where a place may be read.
use Rattle.std.specs.Prelude.{ℕ, ◌+◌, ◌-◌, ◌<◌, Bool, ◌&&◌, List, Float}
use Rattle.knots.specs.declared.Place.{Place}
use Rattle.knots.specs.declared.Place.TheVariants.{Knot, Between}
use Rattle.knots.specs.Places.{every, rises_at, knot_at}

-- the first n widths rise strictly, and the first n numbers of each array are in the range of knots
abbrev pub sound : List Float → List Float → List Float → ℕ → Bool
sound widths gains residuals n =
    every (rises_at widths) (n - 1) && ((every (knot_at widths) n && every (knot_at gains) n) && every (knot_at residuals) n)

-- a place's own knot, or the one below it and the one above, is among the first n
abbrev pub AmongKnots : ℕ → Place → Type 0
AmongKnots n (Knot k) = k < n
AmongKnots n (Between k t) = k + 1 < n
