-- `mean_quiet` meets its contract. After k windows sum and count are those of the quiet ones among the first k. Assumes nothing.
use Rattle.sums.proofs.Starts.{Quiet}
use Rattle.sums.proofs.Band.mean_quiet.Given as goal

abbrev pub invariant-loop-k : goal.invariant-loop-k
invariant-loop-k l = Quiet l.self.op.now l.self.gate.now l.quiet l.sum l.n l.k
