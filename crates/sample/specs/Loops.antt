-- Only for the loop that lays the kept windows: what a turn does, and what the loop asks. What it comes to is `laid_in`.
use Rattle.std.specs.Prelude.{◌≡◌, ℕ, ◌+◌, ◌*◌, ◌≤◌, List, length, ℤ, slice_set, Float}
use Rattle.window.specs.declared.WindowStats.{WindowStats}
use Rattle.measure.specs.Columns.{column_count, figures_in}
use Rattle.band.specs.Bands.{sample_of}
use Rattle.band.specs.declared.Sample.{Sample}
use Rattle.sample.specs.Laid.{gate32, square32}

-- a window's gate at place i, and its squared output half further on
abbrev pub laid_at : WindowStats → ℕ → ℕ → List Float → List Float
laid_at f i half old = slice_set (slice_set old i (gate32 f)) (half + i) (square32 f)

-- figures in columns, counted, with room for what is kept of them
pub record Layable (t : ℕ) (ints : List ℤ) (s : Sample) (floats : List Float) : Type 0 where
  pub columns : column_count * t ≤ length ints
  pub counted : s ≡ sample_of (figures_in t ints)
  pub room : 2 * t + 2 ≤ length floats
