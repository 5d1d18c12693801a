-- `add_window` meets its contract. The first l lanes have their window i, the others not yet. Assumes nothing.
use Rattle.sums.proofs.Eights.{Step}
use Rattle.sums.proofs.Eight.add_window.Given as goal

abbrev pub invariant-loop-l : goal.invariant-loop-l
invariant-loop-l l = Step l.limits.gate l.limits.op l.band.gate.now l.band.op.now l.a l.i l.self.sums l.self.counts l.l
