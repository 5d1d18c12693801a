use native.Mathlib.Omega.{arith}
use Rattle.laws.proofs.Fill.{front_put, front_end}
use Rattle.measure.specs.Loops.{gathered}
use Rattle.measure.proofs.Row.gather.Goals as goal

pub loop-k-preserved : goal.loop-k-preserved
loop-k-preserved c = front_put c.loop-k.invariant c.loop-k-test.true (omega (arith, c.requires.1)) c.word.ensures

pub returns : goal.returns
unfolding gathered
returns c = front_end c.loop-k.invariant c.loop-k-test.false
