-- What `pgmnoise` says on standard error: nothing beside a figure, else why there is none.
use Rattle.std.specs.Prelude.{ℕ, ◌+◌, cond, List, [], ◌++◌, eqb, length}
use Rattle.text.specs.Text.{as_bytes}
use Rattle.reasons.specs.Reasons.{numbered_bytes, numbered_of}

abbrev pub grey_no_figure : List ℕ
grey_no_figure = as_bytes "pgmnoise: no figure, "

unfoldable pub grey_remark : ℕ → List ℕ
grey_remark n = cond (eqb n 0) [] (grey_no_figure ++ numbered_of n)

-- as many bytes as that may take
abbrev pub grey_remark_bytes : ℕ
grey_remark_bytes = length grey_no_figure + numbered_bytes
