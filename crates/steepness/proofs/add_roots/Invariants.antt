-- A fold by the sum with the next root.
use lib.Ieee.{binary32}
use lib.Ieee.{add}
use Rattle.ieee.specs.Sqrt.{sqrt}
use Rattle.levels.proofs.Folds.{Folding}
use Rattle.steepness.proofs.add_roots.Given as goal

abbrev pub invariant-loop-x : goal.invariant-loop-x
invariant-loop-x l = Folding (λ a x. add binary32 a (sqrt binary32 x)) l.top l.initial.sum l.sum l.x-index
