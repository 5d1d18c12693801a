-- `insert` meets its contract. The numbers above v move up one by one from the last place on, and v takes the place that they leave. Assumes nothing.
use Rattle.std.proofs.Common.{map, ◌-◌}
use Rattle.quantile.proofs.Inserting.{Sliding}
use Rattle.quantile.proofs.insert.Given as goal

abbrev pub invariant-loop-j : goal.invariant-loop-j
invariant-loop-j g l =
    Sliding g.row.N (map g.F.Real.float l.initial.least) (g.F.Real.float l.v) (l.j - 1) (map g.F.Real.float l.least)
