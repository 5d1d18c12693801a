-- `join` meets its contract, stage by stage. Assumes nothing.
use Rattle.std.proofs.Common.{sym, ap, ◌∙◌}
use Rattle.std.specs.Option.{ok_or}
use Rattle.std.proofs.lemmas.Result.{err_from_is_err_and}
use Rattle.numbers.specs.declared.Number.TheVariants.{NoBand}
use Rattle.joining.proofs.Joins.{sigma_none, sigma_is}
use Rattle.joining.proofs.join.Goals as goal

pub returns-in_err-ok_or : goal.returns-in_err-ok_or
returns-in_err-ok_or c =
    let p = err_from_is_err_and c.from_residual.result c.from_residual.ensures.1 in
    rw (p.1, p.2) (sigma_none c.args.bands.now (sym (c.ok_or.ensures.value ∙ ap (λ m. ok_or m NoBand) c.median.ensures) ∙ c.in_err-ok_or.was))

pub returns : goal.returns
returns c =
    sigma_is c.args.bands.now (sym (c.ok_or.ensures.value ∙ ap (λ m. ok_or m NoBand) c.median.ensures) ∙ c.in_ok-ok_or.was)
    c.outlier_limit-limit.ensures c.joined.ensures c.decide.ensures
