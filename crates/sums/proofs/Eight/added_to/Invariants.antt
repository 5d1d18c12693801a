-- `added_to` meets its contract. After l lanes sum and count are k and the first l. Assumes nothing.
use Rattle.sums.proofs.Eights.{Up}
use Rattle.sums.proofs.Eight.added_to.Given as goal

abbrev pub invariant-loop-l : goal.invariant-loop-l
invariant-loop-l l = Up l.self.sums l.self.counts l.initial.k.sum l.initial.k.n l.k.sum l.k.n l.l
