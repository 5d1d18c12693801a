use Rattle.laws.proofs.Fill.{tab_put}
use Rattle.disk.proofs.smooth.Goals as goal

pub loop-k-preserved : goal.loop-k-preserved
loop-k-preserved g c = tab_put c.loop-k.invariant c.loop-k-test.true c.binomial.ensures
