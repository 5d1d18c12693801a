-- Each turn takes the next gradient to the one sum. Assumes nothing.
use Rattle.gram.specs.Loops.{Added}
use Rattle.gram.proofs.Plain.with_rest.Given as goal

abbrev pub invariant-loop-k : goal.invariant-loop-k
invariant-loop-k l = Added l.self.gx.now l.self.gy.now 1 l.first l.initial.sums l.k l.sums
