use Rattle.answer.proofs.Rowing.{written_turn, written_end}
use Rattle.answer.proofs.put_words.Goals as goal

pub loop-k-preserved : goal.loop-k-preserved
loop-k-preserved c = written_turn c.requires c.loop-k-test.true c.from.ensures c.put.ensures c.loop-k.invariant

pub returns : goal.returns
returns c = written_end c.loop-k-test.false c.loop-k.invariant
