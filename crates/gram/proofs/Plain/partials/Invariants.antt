-- Each turn takes four gradients to four sums, lane by lane. Assumes nothing.
use Rattle.gram.specs.Loops.{FourSums}
use Rattle.gram.proofs.Sums.{Turning}
use Rattle.gram.proofs.Plain.partials.Given as goal

abbrev pub invariant-loop-lane : goal.invariant-loop-lane
invariant-loop-lane l = Turning l.self.gx.now l.self.gy.now l.k l.lane l.sums

abbrev pub invariant-loop-k : goal.invariant-loop-k
invariant-loop-k l = FourSums l.self.gx.now l.self.gy.now l.k l.sums
