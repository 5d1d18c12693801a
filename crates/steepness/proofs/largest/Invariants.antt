-- Each turn inserts the next gradient among the eight largest so far.
use Rattle.steepness.proofs.Largests.{Kept}
use Rattle.steepness.proofs.largest.Given as goal

abbrev pub invariant-loop-v : goal.invariant-loop-v
invariant-loop-v l = Kept l.gradients l.v-index l.top
