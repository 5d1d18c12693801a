use Rattle.std.proofs.Common.{rules, arith, ◌<◌}
use Rattle.std.proofs.lemmas.Grind.{common_steps}
use Rattle.stored.proofs.Hex.{room, digit_at}
use Rattle.stored.specs.Lines.{written}
use Rattle.stored.proofs.column.Goals as goal

pub overflow_mul-n : goal.overflow_mul-n
overflow_mul-n c =
    let below : c.loop-c.c-index < 16 = search rules in
    omega (arith, room _ _ below c.loop-c.invariant.below)

pub overflow_add-n : goal.overflow_add-n
overflow_add-n c =
    let below : c.loop-c.c-index < 16 = search rules in
    omega (arith, room _ _ below c.loop-c.invariant.below)

pub loop-c-preserved : goal.loop-c-preserved
unfolding written
loop-c-preserved c =
    let below : c.loop-c.c-index < 16 = search rules in
    let read = digit_at c.args.text.now c.args.at c.loop-c.c-index below in
    record { is = search (rules, read); below = grind (arith, common_steps) }
