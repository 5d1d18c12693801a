-- Entry i is the place i about c.
use Rattle.laws.proofs.Fill.{Tab}
use Rattle.tile.proofs.Loading.{near}
use Rattle.tile.proofs.nearby.Given as goal

abbrev pub invariant-loop-i : goal.invariant-loop-i
invariant-loop-i l = Tab (near l.c l.o l.most) 17 l.i l.out
