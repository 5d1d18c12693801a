use Rattle.std.proofs.Common.{arith}
use Rattle.sums.proofs.Counts.{tallied_few}
use Rattle.sums.proofs.Band.block_count.Goals as goal

pub overflow_add-n : goal.overflow_add-n
overflow_add-n c = omega (arith, tallied_few _ c.loop-k.invariant, c.one-n.ensures.few)
