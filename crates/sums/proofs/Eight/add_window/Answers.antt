use Rattle.std.proofs.Common.{arith}
use Rattle.sums.proofs.Eights.{step_few, step_put}
use Rattle.sums.proofs.Eight.add_window.Goals as goal

pub overflow_add-self : goal.overflow_add-self
overflow_add-self c = omega (arith, c.one.ensures.few, step_few c.loop-l.invariant (omega arith))

pub loop-l-preserved : goal.loop-l-preserved
loop-l-preserved c = step_put c.loop-l.invariant (omega arith) c.value.ensures c.one.ensures.same
