-- `judge` meets its contract, by the two tests. Assumes nothing.
use Rattle.std.proofs.Common.{◌≡◌, Bool, true, false, cond, Some, None, refl, ap, ◌∙◌}
use Rattle.std.specs.Bool.{then_some}
use borrow.Author.Tests.{lt-leb}
use lib.Ieee.{of_bits, of_int, round}
use Rattle.rounds.specs.Rounds.{found_at}
use Rattle.rounds.proofs.Bands.{judged_few, by_ratio}
use Rattle.rounds.proofs.judge.Goals as goal
use Rattle.rounds.proofs.judge.Goals.{then-s-ge-MIN_BAND_SAMPLES, else-s-ge-MIN_BAND_SAMPLES}

chosen : {A : Type 0} (b : Bool) (x : A) → then_some b x ≡ cond b (Some x) None
chosen true x = refl
chosen false x = refl

pub returns : goal.returns
unfolding of_bits of_int round
returns c =
    let s = c.args.s in
    let given = λ (b : Bool). cond b (Some (found_at s.n s.var)) None in
    c.then_some.ensures ∙ chosen c.if-s-ge-MIN_BAND_SAMPLES.then_some (found_at s.n s.var) ∙ elim c.if-s-ge-MIN_BAND_SAMPLES.branch [
      | then-s-ge-MIN_BAND_SAMPLES w ↦ ap given w.then_some-is ∙ by_ratio s c.args.image_var w.if-s-ge-MIN_BAND_SAMPLES.true c.max.ensures
      | else-s-ge-MIN_BAND_SAMPLES w ↦ ap given (w.then_some-is ∙ lt-leb 128 s.n w.if-s-ge-MIN_BAND_SAMPLES.false) ∙ judged_few s c.args.image_var w.if-s-ge-MIN_BAND_SAMPLES.false
    ]
