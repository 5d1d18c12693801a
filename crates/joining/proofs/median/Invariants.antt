-- `median` meets its contract. After some bands the variances of those stand in rising order, and no numbers after them. Assumes nothing.
use Rattle.joining.proofs.Joins.{Collected}
use Rattle.joining.proofs.median.Given as goal

abbrev pub invariant-loop-found : goal.invariant-loop-found
invariant-loop-found l = Collected l.bands l.least l.n l.found-index
