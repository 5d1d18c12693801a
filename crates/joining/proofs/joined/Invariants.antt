-- `joined` meets its contract. The total so far, and then the bands left, make the whole total. Assumes nothing.
use Rattle.joining.proofs.Joins.{Joining}
use Rattle.joining.proofs.joined.Given as goal

abbrev pub invariant-loop-found : goal.invariant-loop-found
invariant-loop-found l = Joining l.limit l.bands l.k l.found-index
