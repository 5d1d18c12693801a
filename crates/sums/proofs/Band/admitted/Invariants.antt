-- `admitted` meets its contract. After i blocks the sum is that of the first i blocks, and the count that of the windows passed. Assumes nothing.
use Rattle.sums.proofs.Sums.{Added}
use Rattle.sums.proofs.Band.admitted.Given as goal

abbrev pub invariant-loop-i : goal.invariant-loop-i
invariant-loop-i l = Added l.limits.gate l.limits.op l.self.gate.now l.self.op.now l.k.sum l.k.n l.i
