-- What `lidnoise` says on standard error: nothing beside a figure, else why there is none.
use Rattle.std.specs.Prelude.{ℕ, ◌+◌, Bool, cond, ◌&&◌, List, [], ◌++◌, eqb, length, get_or}
use Rattle.text.specs.Text.{as_bytes}
use Rattle.reasons.specs.Reasons.{numbered_bytes, numbered_of}

-- hex 50 35, as a binary PGM file begins
unfoldable pub begins_p5 : List ℕ → Bool
begins_p5 input = eqb (get_or input 0 0) 80 && eqb (get_or input 1 0) 53

abbrev pub pgm_line : List ℕ
pgm_line = as_bytes "lidnoise: the input begins with P5, as a binary PGM file does: pgmnoise reads those\n"

unfoldable pub pgm_of : List ℕ → List ℕ
pgm_of input = cond (begins_p5 input) pgm_line []

abbrev pub no_figure : List ℕ
no_figure = as_bytes "lidnoise: no figure, "

-- by the input and its number
unfoldable pub remark_of : List ℕ → ℕ → List ℕ
remark_of input n = cond (eqb n 0) [] (pgm_of input ++ no_figure ++ numbered_of n)

-- as many bytes as that may take
abbrev pub remark_bytes : ℕ
remark_bytes = length pgm_line + length no_figure + numbered_bytes
