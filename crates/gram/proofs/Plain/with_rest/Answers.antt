use native.Mathlib.Omega.{arith}
use Rattle.gram.proofs.Sums.{added_more}
use Rattle.gram.proofs.Plain.with_rest.Goals as goal

pub loop-k-preserved : goal.loop-k-preserved
loop-k-preserved c = added_more _ _ 1 _ c.args.s c.loop-k.k _ c.loop-k.invariant (omega arith) c.with_products-sums.ensures
