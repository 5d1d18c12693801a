use native.Mathlib.Omega.{arith}
use Rattle.levels.proofs.Ends.{begin, turn}
use Rattle.levels.proofs.extremes.Goals as goal

pub loop-m-init : goal.loop-m-init
loop-m-init c = begin _ _ c.requires.long c.number-first.ensures.0 c.number-first.ensures.1

pub loop-m-preserved : goal.loop-m-preserved
loop-m-preserved c =
    turn c.loop-m.invariant c.requires.long (omega arith) c.number-n.ensures.0 c.number-n.ensures.1 c.max-most.ensures c.min-least.ensures
