-- A number, and then the byte at its end.
use mathlib.Core.Path.{sym, ◌∙◌}
use Rattle.pgm.proofs.Steps.{field_goes, field_ends}
use Rattle.pgm.proofs.field_at.Goals as goal

pub returns-then-not-is_white_at-clause-by_index : goal.returns-then-not-is_white_at-clause-by_index
returns-then-not-is_white_at-clause-by_index c =
    field_ends c.args.file.now c.args.at c.number_at.result c.number_at.ensures.by_index _ _ c.in_ok-number.was (sym c.is_white_at.ensures ∙ c.if-not-is_white_at.true)

pub returns-clause-by_index : goal.returns-clause-by_index
returns-clause-by_index c =
    (field_goes c.args.file.now c.args.at c.number_at.result c.number_at.ensures.by_index _ _ c.in_ok-number.was (sym c.is_white_at.ensures ∙ c.if-not-is_white_at.false)).0
