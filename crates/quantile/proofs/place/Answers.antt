use Rattle.std.proofs.Common.{length, refl, arith}
use Rattle.quantile.specs.Rising.{at}
use Rattle.quantile.proofs.Inserting.{no_number, held_start, held_rises, held_more, insert_asks, insert_gives}
use Rattle.quantile.proofs.place.Goals as goal

pub loop-v-init : goal.loop-v-init
loop-v-init c = held_start 16 (at c.args.values.now) (length c.args.values.now) _ no_number.0

pub insert-requires : goal.insert-requires
insert-requires c = (omega arith, (omega arith, insert_asks c.loop-v.least (held_rises c.loop-v.invariant)))

pub loop-v-preserved : goal.loop-v-preserved
loop-v-preserved c =
    let v = at c.args.values.now c.loop-v.v-index in
    held_more c.loop-v.invariant c.loop-v-test.true {v = v} refl (insert_gives 16 v c.loop-v.least c.insert.ensures)
