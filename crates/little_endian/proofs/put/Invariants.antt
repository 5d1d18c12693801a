-- `put` lays the bytes down: what is left of the number holds the bytes still to come.
use Rattle.little_endian.proofs.Loops.{Putting}
use Rattle.little_endian.proofs.put.Given as goal

abbrev pub invariant-loop-k : goal.invariant-loop-k
invariant-loop-k l = Putting l.initial.out l.at l.count l.x l.k l.rest l.out
