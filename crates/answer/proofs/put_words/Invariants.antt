-- `put_words` meets its contract: each turn lays the bytes of one number behind those before.
use Rattle.answer.proofs.Rowing.{Written}
use Rattle.answer.proofs.put_words.Given as goal

abbrev pub invariant-loop-k : goal.invariant-loop-k
invariant-loop-k l = Written l.fn.words l.initial.out l.k l.out
