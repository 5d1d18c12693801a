use Rattle.std.proofs.Common.{refl, arith}
use Rattle.sums.proofs.Sums.{added_few}
use Rattle.sums.proofs.Eights.{eights_more, counts_fit}
use Rattle.sums.proofs.Band.side_by_side.Goals as goal

pub added_to-k-requires : goal.added_to-k-requires
added_to-k-requires c = (omega (arith, added_few c.loop-j.invariant.added), counts_fit c.eight.ensures)

pub loop-j-preserved : goal.loop-j-preserved
loop-j-preserved c =
    let e = c.added_to-k.ensures in
    eights_more c.loop-j.invariant c.requires c.loop-j-test.true refl c.eight.ensures e.0 e.1
