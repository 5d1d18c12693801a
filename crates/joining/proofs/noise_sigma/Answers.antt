use Rattle.std.proofs.Common.{◌∙◌, arith}
use Rattle.rounds.specs.Rounds.{Bands, band_variance}
use Rattle.joining.proofs.Noises.{gathered_room, gathered_more, gathered_few, gathered_end}
use Rattle.joining.proofs.noise_sigma.Goals as goal

pub overflow_add-rounds : goal.overflow_add-rounds
overflow_add-rounds c =
    let whole = c.image_variance-whole in
    let part = c.band.ensures in
    omega (
      arith,
      gathered_room whole.result whole.ensures c.loop-b.invariant c.loop-b-test.true
          (c.variance-band.ensures ∙ (λ i. band_variance (part.0 i) (part.1 i) whole.result.var)),
    )

pub loop-b-preserved : goal.loop-b-preserved
loop-b-preserved c =
    let whole = c.image_variance-whole in
    let part = c.band.ensures in
    gathered_more whole.result whole.ensures c.loop-b.invariant c.loop-b-test.true
    (c.variance-band.ensures ∙ (λ i. band_variance (part.0 i) (part.1 i) whole.result.var))

pub join-requires : goal.join-requires
join-requires c =
    let s = c.args.image in
    let whole = c.image_variance-whole in
    let in_order : Bands s.all.gate.now s.all.op.now s.starts = record { same = s.all.same; rise = s.rise; last = s.last } in
    omega (arith, gathered_few whole.result whole.ensures c.loop-b.invariant in_order c.loop-b-test.false)

pub returns : goal.returns
returns c =
    let whole = c.image_variance-whole in
    gathered_end whole.result whole.ensures c.loop-b.invariant c.if-image-lt-MIN_SAMPLES.false c.loop-b-test.false c.join.ensures
