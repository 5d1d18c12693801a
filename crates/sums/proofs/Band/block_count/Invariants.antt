-- `block_count` meets its contract. After k windows the count is that of the first k. Assumes nothing.
use Rattle.std.proofs.Common.{ℕ, ◌+◌}
use Rattle.sums.proofs.Counts.{Tallied}
use Rattle.sums.proofs.Sums.{kept}
use Rattle.sums.proofs.Band.block_count.Given as goal

abbrev pub invariant-loop-k : goal.invariant-loop-k
invariant-loop-k l = Tallied (λ (i : ℕ). kept l.limits.gate l.limits.op l.self.gate.now l.self.op.now (l.a + i)) l.m l.n l.k
