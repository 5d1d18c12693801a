use Rattle.std.proofs.Common.{sym, ◌∙◌, arith}
use Rattle.levels.proofs.Means.{taken, left, done}
use Rattle.levels.proofs.mean_of.Goals as goal
use Rattle.levels.proofs.mean_of.Goals.{then-counts, else-counts}

pub loop-v-preserved : goal.loop-v-preserved
loop-v-preserved g c =
    let i = c.loop-v.invariant in
    let long = c.requires.whole.long in
    elim c.if-counts.branch [
      | then-counts w ↦ record {
        small = omega (arith, i.small);
        few = omega (arith, i.few);
        sums = λ p h. taken (i.sums p h) long (omega arith) w.number-sum.ensures.0 w.number-sum.ensures.1 (sym (h _ _ c.counts.ensures) ∙ w.if-counts.true) w.sum-is w.n-is;
      }
      | else-counts w ↦ record {
        small = omega (arith, i.small);
        few = omega (arith, i.few);
        sums = λ p h. left (i.sums p h) long (omega arith) (sym (h _ _ c.counts.ensures) ∙ w.if-counts.false) w.sum-is w.n-is;
      }
    ]

pub returns : goal.returns
returns g c = λ p h. c.mean.ensures ∙ done (c.loop-v.invariant.sums p h) (omega (arith, c.requires.whole.long))
