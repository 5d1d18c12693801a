-- Worked examples that tell what is measured from its likely twins: x for y, window by window, another order of figures. Assumes nothing.
use mathlib.Core.Path.{◌≡◌, refl}
use mathlib.Core.List.{[], ◌∷◌, map}
use Prim.Native.Nat.{ℕ}
use lib.IntN.{pos}
use Rattle.laws.specs.Lists.{from}
use Rattle.window.specs.Window.{stats_of}
use Rattle.window.specs.declared.WindowStats.{WindowStats}
use Rattle.grid.specs.Step.{step_of}
use Rattle.grid.specs.Grid.{places_of}
use Rattle.measure.specs.Figures.{figures_of}
use Rattle.measure.specs.Columns.{columns_in, figures_in}

-- the pixels 0, 1, .. , 23 in rows of four: windows at y = 0, 1 and 2
pub sums : map (λ (f : WindowStats). f.sum) (figures_of (from (λ n. n) 0 24) 4 6 24) ≡ pos 120 ∷ pos 184 ∷ pos 248 ∷ []
unfolding stats_of places_of step_of
sums = refl

abbrev one : ℕ → ℕ → ℕ → WindowStats
one sum gate op = record { sum = pos sum; gate = pos gate; op = pos op }

-- two windows in a slice of eight
pub two : columns_in (one 1 2 3 ∷ one 4 5 6 ∷ []) (pos 10 ∷ pos 11 ∷ pos 12 ∷ pos 13 ∷ pos 14 ∷ pos 15 ∷ pos 16 ∷ pos 17 ∷ [])
    ≡ pos 1 ∷ pos 4 ∷ pos 2 ∷ pos 5 ∷ pos 3 ∷ pos 6 ∷ pos 16 ∷ pos 17 ∷ []
unfolding columns_in
two = refl

pub back : figures_in 2 (pos 1 ∷ pos 4 ∷ pos 2 ∷ pos 5 ∷ pos 3 ∷ pos 6 ∷ pos 16 ∷ pos 17 ∷ []) ≡ one 1 2 3 ∷ one 4 5 6 ∷ []
unfolding figures_in
back = refl
