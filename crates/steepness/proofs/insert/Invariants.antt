-- From the first place on each takes its new number; the last takes the larger of v and what it holds.
use lib.ListN.{drop}
use Rattle.quantile.specs.Rising.{inserted}
use Rattle.steepness.proofs.Largests.{Sliding}
use Rattle.steepness.proofs.insert.Given as goal

abbrev pub invariant-loop-j : goal.invariant-loop-j
invariant-loop-j l = Sliding (drop 1 (inserted l.v l.initial.top)) l.v l.j l.top
