use mathlib.Core.Path.{sym, ◌∙◌}
use Rattle.pgm.proofs.Runs.{run_long, run_none, run_zero, run_number}
use Rattle.pgm.proofs.number_at.Goals.{then-end-at-via-then-end-at, then-end-at-via-else-end-at+then-file-at-eq48}
use Rattle.pgm.proofs.number_at.Goals as goal

pub returns-then-end-at-eq5-clause-by_index : goal.returns-then-end-at-eq5-clause-by_index
returns-then-end-at-eq5-clause-by_index c = run_long c.loop-at.invariant (sym c.is_digit_at.ensures ∙ c.loop-at-test.true) c.if-end-at-eq5.true

pub returns-then-end-at-clause-by_index : goal.returns-then-end-at-clause-by_index
returns-then-end-at-clause-by_index c =
    let over = sym c.is_digit_at.ensures ∙ c.loop-at-test.false in
    elim c.then-end-at.branch [
      | then-end-at-via-then-end-at w ↦ run_none c.loop-at.invariant over w.if-end-at.true
      | then-end-at-via-else-end-at+then-file-at-eq48 w ↦ run_zero c.loop-at.invariant over w.if-end-at.false w.if-file-at-eq48.true
    ]

pub returns-clause-by_index : goal.returns-clause-by_index
returns-clause-by_index c = run_number c.loop-at.invariant (sym c.is_digit_at.ensures ∙ c.loop-at-test.false) c.if-end-at.false c.if-file-at-eq48.false
