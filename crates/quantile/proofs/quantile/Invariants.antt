-- `quantile` meets its contract. After k values the array holds the first k that the rule takes. Assumes nothing.
use Rattle.quantile.proofs.Inserting.{Taken}
use Rattle.quantile.proofs.quantile.Given as goal

abbrev pub invariant-loop-k : goal.invariant-loop-k
invariant-loop-k l = Taken l.values l.s l.buf l.k
