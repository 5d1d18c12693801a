use native.Mathlib.Omega.{arith}
use Rattle.levels.proofs.Clears.{clear_at}
use Rattle.steepness.proofs.Largests.{kept_rises, keep_put, keep_end}
use Rattle.steepness.proofs.largest.Goals as goal

pub insert-requires : goal.insert-requires
insert-requires c =
    (c.loop-v.invariant.all, clear_at c.args.gradients.now c.requires c.loop-v.v-index (omega arith), kept_rises c.told-gradients c.requires c.loop-v.invariant)

pub loop-v-preserved : goal.loop-v-preserved
loop-v-preserved c =
    keep_put c.told-gradients c.requires c.loop-v.invariant c.loop-v-test.true c.insert.ensures

pub returns : goal.returns
returns c = keep_end c.loop-v.invariant c.loop-v-test.false
