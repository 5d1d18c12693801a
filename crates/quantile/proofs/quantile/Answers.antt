use Rattle.quantile.proofs.Inserting.{taken_end}
use Rattle.quantile.proofs.quantile.Goals as goal

pub returns : goal.returns
returns c = taken_end c.loop-k.invariant c.loop-k-test.false c.stride-s.ensures c.div_ceil-n.ensures c.place.ensures
