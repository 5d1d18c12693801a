-- Knots by increasing edge width: where a width lies among them, and what gains or residuals give there.
use Rattle.std.specs.Prelude.{ℕ, zero, suc, ◌+◌, ◌-◌, Bool, true, cond, not, ◌&&◌, List, Float, Option, Some, None}
use Rattle.std.specs.Float.Ieee.{lt, le}
use Rattle.ieee.specs.Order.{finite}
use Rattle.ranges.specs.Arith.{◌⊕◌, ◌⊖◌, ◌⊗◌, ◌⊘◌, at}
use Rattle.ranges.specs.Ranges.{within}
use Rattle.knots.specs.declared.Place.{Place}
use Rattle.knots.specs.declared.Place.TheVariants.{Knot, Between}

-- ---- a test of each knot

-- p holds of 0, .. , n - 1
abbrev pub every : (ℕ → Bool) → ℕ → Bool
every p zero = true
every p (suc n) = every p n && p n

abbrev pub rises_at : List Float → ℕ → Bool
rises_at l k = lt (at l k) (at l (k + 1))

abbrev pub knot_at : List Float → ℕ → Bool
knot_at l k = within 1000 (at l k)

-- ---- where a width lies

-- from knot k on, with n knots after it: between the first two whose upper one is at or above w, and at the last if none is
abbrev pub place_from : List Float → Float → ℕ → ℕ → Place
place_from l w k zero = Knot k
place_from l w k (suc n) =
    cond (le w (at l (k + 1))) (Between k ((w ⊖ at l k) ⊘ (at l (k + 1) ⊖ at l k))) (place_from l w (k + 1) n)

-- no width, an infinite one or NaN, or one at or below the first knot is at the first
unfoldable pub place : List Float → ℕ → Option Float → Place
place l n None = Knot 0
place l n (Some w) = cond (finite w && not (le w (at l 0))) (place_from l w 0 (n - 1)) (Knot 0)

-- ---- what gains or residuals give there

-- the part t of the way from one number to another
abbrev pub blend : Float → Float → Float → Float
blend lower upper t = lower ⊕ t ⊗ (upper ⊖ lower)

unfoldable pub value_at : List Float → Place → Float
value_at l (Knot k) = at l k
value_at l (Between k t) = blend (at l k) (at l (k + 1)) t
