-- `place` meets its contract. The sixteen numbers held are the least of those passed, in rising order, and no numbers where there are fewer. Assumes nothing.
use Rattle.std.proofs.Common.{length}
use Rattle.quantile.specs.Rising.{at}
use Rattle.quantile.proofs.Inserting.{Held}
use Rattle.quantile.proofs.place.Given as goal

abbrev pub invariant-loop-v : goal.invariant-loop-v
invariant-loop-v l = Held 16 (at l.values) (length l.values) l.v-index l.least
