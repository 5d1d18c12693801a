use Rattle.std.proofs.Common.{arith}
use Rattle.sums.proofs.Sums.{added_few, added_more}
use Rattle.sums.proofs.Band.admitted.Goals as goal

pub overflow_add-k : goal.overflow_add-k
overflow_add-k c =
    omega (arith, added_few (added_more c.loop-i.invariant (omega arith) c.min-m.ensures c.block_count.ensures c.from.ensures c.block_sum.ensures))

pub loop-i-preserved : goal.loop-i-preserved
loop-i-preserved c =
    added_more c.loop-i.invariant (omega arith) c.min-m.ensures c.block_count.ensures c.from.ensures c.block_sum.ensures
