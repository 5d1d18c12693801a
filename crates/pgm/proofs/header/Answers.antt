-- The mark, then three fields, each where the one before it ended: where one is missing there is no header.
use mathlib.Core.Path.{sym, ◌∙◌}
use Rattle.pgm.proofs.Steps.{no_mark, no_width, no_height, no_maximum, has_header, head_missing, head_numbers}
use Rattle.pgm.proofs.header.Goals as goal

pub returns-then-not-is_marked : goal.returns-then-not-is_marked
returns-then-not-is_marked c = head_missing c.args.file.now (no_mark c.args.file.now (sym c.is_marked.ensures ∙ c.if-not-is_marked.true))

pub returns-in_err-width : goal.returns-in_err-width
returns-in_err-width c =
    c.from_residual.ensures ∙ head_missing c.args.file.now (no_width c.args.file.now (sym c.is_marked.ensures ∙ c.if-not-is_marked.false) c.in_err-width.ensures.by_index)

pub returns-in_err-height : goal.returns-in_err-height
returns-in_err-height c =
    c.from_residual-in_err-height.ensures
    ∙ head_missing c.args.file.now
    (no_height c.args.file.now (sym c.is_marked.ensures ∙ c.if-not-is_marked.false) _ _ c.in_ok-width.ensures.by_index c.in_err-height.ensures.by_index)

pub returns-in_err-maximum : goal.returns-in_err-maximum
returns-in_err-maximum c =
    c.from_residual-in_err-maximum.ensures
    ∙ head_missing c.args.file.now
    (no_maximum c.args.file.now (sym c.is_marked.ensures ∙ c.if-not-is_marked.false) _ _ _ _ c.in_ok-width.ensures.by_index c.in_ok-height.ensures.by_index c.in_err-maximum.ensures.by_index)

pub returns : goal.returns
returns c =
    head_numbers c.args.file.now _ _ _ _
    (has_header c.args.file.now (sym c.is_marked.ensures ∙ c.if-not-is_marked.false) _ _ _ _ _ _
    c.in_ok-width.ensures.by_index c.in_ok-height.ensures.by_index c.in_ok-maximum.ensures.by_index)
    c.in_ok-maximum.ensures.in_file
