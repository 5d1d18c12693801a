use Rattle.std.proofs.Common.{arith, ◌∙◌}
use Rattle.rounds.specs.Rounds.{Bands, band_total}
use Rattle.rounds.proofs.Bands.{joined_few}
use Rattle.rounds.proofs.Image.admitted.Goals as goal

pub overflow_add-k : goal.overflow_add-k
overflow_add-k c =
    let s = c.args.self in
    let in_order : Bands s.all.gate.now s.all.op.now s.starts = record { same = s.all.same; rise = s.rise; last = s.last } in
    let part = c.band.ensures in
    omega (arith, joined_few c.loop-b.invariant in_order c.loop-b-test.true (c.admitted-band.ensures ∙ (λ i. band_total (part.0 i) (part.1 i) c.args.var)))
