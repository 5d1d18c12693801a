-- `side_by_side` meets its contract. After j turns sum and count are those of the first j times eight blocks. Assumes nothing.
use Rattle.sums.proofs.Eights.{Eights}
use Rattle.sums.proofs.Band.side_by_side.Given as goal

abbrev pub invariant-loop-j : goal.invariant-loop-j
invariant-loop-j l = Eights l.limits.gate l.limits.op l.self.gate.now l.self.op.now l.m l.k l.j
