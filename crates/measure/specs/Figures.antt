-- What a pass measures: the figures of its windows, in sampling order. Past this list nothing looks at a pixel.
use Rattle.std.specs.Prelude.{◌≡◌, List, map, ℕ, ◌+◌, ◌*◌, ◌≤◌, length, ℤ}
use Rattle.window.specs.Window.{stats_of, pixels_at}
use Rattle.window.specs.declared.WindowStats.{WindowStats}
use Rattle.grid.specs.Grid.{Place, places_of, total_of}
use Rattle.measure.specs.Columns.{column_count}

-- of the window at a place
abbrev pub figure_at : List ℕ → ℕ → Place → WindowStats
figure_at img w p = stats_of (pixels_at img w (p.y * w + p.x))

abbrev pub figures_of : List ℕ → ℕ → ℕ → ℕ → List WindowStats
figures_of img w h windows = map (figure_at img w) (places_of w h windows)

-- an image of a pass's sides, with room for the figures
pub record Measurable (img : List ℕ) (w h windows : ℕ) (ints : List ℤ) : Type 0 where
  pub pixels : length img ≡ w * h
  pub columns : column_count * total_of w h windows ≤ length ints
