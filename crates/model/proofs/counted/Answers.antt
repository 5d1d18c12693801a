-- Each way out has its reason, by the tests before it. Assumes nothing.
use mathlib.Core.Path.{◌≡◌, sym, ◌∙◌}
use native.Mathlib.Omega.{arith}
use lib.ListN.{length, take}
use Rattle.std.proofs.lemmas.Grind.{common_steps}
use Rattle.laws.proofs.Refusing.{and}
use Rattle.knots.proofs.Laws.{rises_take, sound_take}
use Rattle.model.specs.Knots.{table}
use Rattle.model.proofs.Refusals.{not_rising, out_of_range, taken}
use Rattle.model.proofs.counted.Goals as goal

pub returns-then-rises_in_range-up_to-clause-judged : goal.returns-then-rises_in_range-up_to-clause-judged
returns-then-rises_in_range-up_to-clause-judged c =
    let s = table c.args.count c.args.floor c.args.widths.now c.args.gains.now c.args.residuals.now in let e : length (take s.count s.widths) ≡ s.count = grind (arith, common_steps) in
    taken s (λ z. omega arith) (omega arith)
    (and (sym (c.rises_in_range.ensures ∙ sound_take s.count s.widths s.gains s.residuals e)) (sym c.up_to.ensures) ∙ c.if-rises_in_range-up_to.true)

pub returns-then-rises-clause-judged : goal.returns-then-rises-clause-judged
returns-then-rises-clause-judged c =
    let s = table c.args.count c.args.floor c.args.widths.now c.args.gains.now c.args.residuals.now in let e : length (take s.count s.widths) ≡ s.count = grind (arith, common_steps) in
    out_of_range s (λ z. omega arith) (omega arith) (sym (c.rises.ensures ∙ rises_take s.count s.widths e) ∙ c.if-rises.true)
    (and (sym (c.rises_in_range.ensures ∙ sound_take s.count s.widths s.gains s.residuals e)) (sym c.up_to.ensures) ∙ c.if-rises_in_range-up_to.false)

pub returns-else-rises-clause-judged : goal.returns-else-rises-clause-judged
returns-else-rises-clause-judged c =
    let s = table c.args.count c.args.floor c.args.widths.now c.args.gains.now c.args.residuals.now in let e : length (take s.count s.widths) ≡ s.count = grind (arith, common_steps) in
    not_rising s (λ z. omega arith) (omega arith) (sym (c.rises.ensures ∙ rises_take s.count s.widths e) ∙ c.if-rises.false)
