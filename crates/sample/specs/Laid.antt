-- The kept windows in the f32 slice: gates, one spare place, squared outputs.
use Rattle.std.specs.Prelude.{ℕ, ◌+◌, ◌*◌, ◌≤◌, List, ◌++◌, map, length, take, drop, ℤ, Float}
use Rattle.std.specs.Float.Ieee as Ieee
use Rattle.std.specs.Float.{binary32}
use Rattle.window.specs.declared.WindowStats.{WindowStats}
use Rattle.band.specs.Bands.{banded, kept_of}
use Rattle.measure.specs.Figures.{Measurable}
use Rattle.grid.specs.Grid.{total_of}

-- the gate, rounded once
abbrev pub gate32 : WindowStats → Float
gate32 f = Ieee.of_int binary32 f.gate

-- the output, squared in f32
abbrev pub square32 : WindowStats → Float
square32 f = Ieee.mul binary32 (Ieee.of_int binary32 f.op) (Ieee.of_int binary32 f.op)

abbrev pub gates_of : List WindowStats → List Float
gates_of fs = map gate32 (banded fs)

abbrev pub squares_of : List WindowStats → List Float
squares_of fs = map square32 (banded fs)

-- the slice after it held old: the spare place and what lies beyond are as they were
unfoldable pub laid_in : List WindowStats → List Float → List Float
laid_in fs old = gates_of fs ++ (take 1 (drop (kept_of fs) old) ++ (squares_of fs ++ drop (2 * kept_of fs + 1) old))

-- what a pass takes beside its sides: the pixels, and room for its T windows in both slices
pub record Collectable (img : List ℕ) (w h windows : ℕ) (ints : List ℤ) (floats : List Float) : Type 0 where
  pub measurable : Measurable img w h windows ints
  pub room : 2 * total_of w h windows + 2 ≤ length floats
