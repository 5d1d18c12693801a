-- `get` reads down from the highest byte: the number so far is that of the bytes passed.
use Rattle.little_endian.proofs.Loops.{Getting}
use Rattle.little_endian.proofs.get.Given as goal

abbrev pub invariant-loop-k : goal.invariant-loop-k
invariant-loop-k l = Getting l.bytes l.at l.count l.x l.k
