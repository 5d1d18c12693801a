use Rattle.little_endian.proofs.Loops.{put_turn}
use Rattle.little_endian.proofs.put.Goals as goal

pub loop-k-preserved : goal.loop-k-preserved
loop-k-preserved c = put_turn c.requires c.loop-k-test.true c.loop-k.invariant
