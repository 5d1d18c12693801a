-- `grid::Grid::window_count` meets its contract: what is counted and the rows still to count make up T.
use mathlib.Core.Path.{◌≡◌}
use Prim.Native.Nat.{◌+◌, ◌-◌}
use lib.ListN.{length}
use Rattle.laws.specs.Lists.{joined}
use Rattle.grid.specs.Grid.{row_of, total_of}
use Rattle.grid.proofs.Grid.window_count.Given as goal

abbrev pub invariant-loop-j : goal.invariant-loop-j
invariant-loop-j l =
    let g = l.self in
    l.t + length (joined (row_of g.w l.s) l.j (l.j-end - l.j)) ≡ total_of g.w g.h g.windows
