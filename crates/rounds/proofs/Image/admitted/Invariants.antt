-- `admitted` meets its contract. After b bands sum and count are those of the first b. Assumes nothing.
use Rattle.rounds.proofs.Bands.{Joined}
use Rattle.rounds.proofs.Image.admitted.Given as goal

abbrev pub invariant-loop-b : goal.invariant-loop-b
invariant-loop-b l = Joined l.self.all.gate.now l.self.all.op.now l.self.starts l.var l.k.sum l.k.n l.b
