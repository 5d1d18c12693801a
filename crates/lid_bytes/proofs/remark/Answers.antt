-- The name and the words after it are one text.
use Rattle.std.proofs.Common.{ap, ◌∙◌, cond, ◌++◌, [], List, ℕ, append_assoc}
use lib.Dec.{eqb}
use Rattle.text.specs.Text.{as_bytes}
use Rattle.reasons.specs.Reasons.{no_figure, numbered_of, remark_by}
use Rattle.lid_bytes.specs.Remark.{pgm_of, remark_of}
use Rattle.lid_bytes.proofs.remark.Goals as goal

pub returns : goal.returns
unfolding remark_of remark_by
returns c =
    c.remark.ensures
    ∙ ap (λ (l : List ℕ). remark_by l (as_bytes "lidnoise") c.args.number) c.pgm_line.ensures.value
    ∙ ap (λ (l : List ℕ). cond (eqb c.args.number 0) [] (l ++ numbered_of c.args.number)) (append_assoc (pgm_of c.args.input.now) (as_bytes "lidnoise") no_figure)
