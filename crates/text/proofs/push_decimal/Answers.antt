use Rattle.std.proofs.Common.{ap, ◌∙◌, List, ℕ, ◌++◌}
use Rattle.text.proofs.Decimals.{decimal_is}
use Rattle.text.proofs.push_decimal.Goals as goal

pub returns-clause-bytes : goal.returns-clause-bytes
returns-clause-bytes g c =
    c.push_str.ensures.bytes ∙ ap (λ (l : List ℕ). c.args.text.now.bytes ++ l) (c.format.ensures.text ∙ decimal_is c.args.n c.ranges.n.fits)
