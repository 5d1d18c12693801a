-- `block_sum` meets its contract. After k windows the sum is that of the first k. Assumes nothing.
use Rattle.std.proofs.Common.{◌≡◌}
use Rattle.sums.specs.Admitted.{block_sum}
use Rattle.sums.proofs.Band.block_sum.Given as goal

abbrev pub invariant-loop-k : goal.invariant-loop-k
invariant-loop-k l = l.sum ≡ block_sum l.limits.gate l.limits.op l.self.gate.now l.self.op.now l.a l.k
