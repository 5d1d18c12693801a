-- `eight` meets its contract. After i turns each lane has the first i windows of its block. Assumes nothing.
use Rattle.sums.specs.Lanes.{Lanes}
use Rattle.sums.proofs.Band.eight.Given as goal

abbrev pub invariant-loop-i : goal.invariant-loop-i
invariant-loop-i l = Lanes l.limits.gate l.limits.op l.self.gate.now l.self.op.now l.a l.i l.eight.sums l.eight.counts
