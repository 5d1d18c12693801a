-- Lines of a list: a letter, columns of a blank and sixteen hexadecimal digits each, a line end.
use Rattle.std.specs.Prelude.{ℕ, zero, suc, ◌+◌, ◌*◌, ◌/◌, ◌%◌, ◌^◌, ◌-◌, Bool, true, cond, ◌&&◌, ◌||◌, List, Option, None, Some, eqb, ltb, leb, length, get_or}
use Rattle.std.specs.Bool.{beq}
use Rattle.stored.specs.Floats.{float_answer}

-- 0 to 9 are the bytes 48 to 57, a to f 97 to 102
abbrev pub is_digit : ℕ → Bool
is_digit c = leb 48 c && leb c 57 || leb 97 c && leb c 102

-- A to Z are the bytes 65 to 90, a to z 97 to 122
abbrev pub is_letter : ℕ → Bool
is_letter c = leb 65 c && leb c 90 || leb 97 c && leb c 122

-- what a digit stands for
unfoldable pub digit_value : ℕ → ℕ
digit_value c = cond (ltb c 58) (c % 16) ((c + 9) % 16)

-- the number that k digits from place at on write
unfoldable pub written : List ℕ → ℕ → ℕ → ℕ
written l at zero = 0
written l at (suc k) = written l at k * 16 + digit_value (get_or l (at + k) 0)

abbrev pub line_bytes : ℕ → ℕ
line_bytes columns = columns * 17 + 2

-- c may stand at place k of a line: the letter first, a line end (10) last, a blank (32) before each column's digits
unfoldable pub belongs : ℕ → ℕ → ℕ → Bool
belongs columns k c =
    cond (eqb k 0) (is_letter c) (cond (eqb k (columns * 17 + 1)) (eqb c 10) (cond (eqb (k % 17) 1) (eqb c 32) (is_digit c)))

-- the first k bytes of the line at place at all stand where they may
unfoldable pub readable : List ℕ → ℕ → ℕ → ℕ → Bool
readable l columns at zero = true
readable l columns at (suc k) = readable l columns at k && belongs columns k (get_or l (at + k) 0)

abbrev pub is_line : List ℕ → ℕ → ℕ → Bool
is_line l columns at = readable l columns at (line_bytes columns)

-- The line at place at can be read, and holds what its call answers: two columns are the arguments, the third is the answer.
unfoldable pub agrees_at : List ℕ → ℕ → ℕ → Bool
agrees_at l columns at =
    leb 3 columns && is_line l columns at
    && eqb (float_answer (get_or l at 0) (written l (at + 2) 16) (written l (at + 19) 16)) (written l (at + 36) 16)

abbrev pub hit_at : List ℕ → ℕ → ℕ → ℕ → Bool → Bool
hit_at l columns at letter good = eqb (get_or l at 0) letter && beq (agrees_at l columns at) good

-- of the first i lines, how many have the letter and agree, or do not, as `good` says
unfoldable pub hits : List ℕ → ℕ → ℕ → Bool → ℕ → ℕ
hits l columns letter good zero = 0
hits l columns letter good (suc i) = hits l columns letter good i + cond (hit_at l columns (i * line_bytes columns) letter good) 1 0

abbrev pub lines_of : List ℕ → ℕ → ℕ
lines_of l columns = length l / line_bytes columns

unfoldable pub hit_count : List ℕ → ℕ → ℕ → Bool → ℕ
hit_count l columns letter good = hits l columns letter good (lines_of l columns)

-- the letter of line i, if there is such a line and it can be read
unfoldable pub letter_at : List ℕ → ℕ → ℕ → Option ℕ
letter_at l columns i =
    cond (ltb i (lines_of l columns) && is_line l columns (i * line_bytes columns)) (Some (get_or l (i * line_bytes columns) 0)) None

-- the number in column j of line i, if there is one
unfoldable pub number_at : List ℕ → ℕ → ℕ → ℕ → Option ℕ
number_at l columns i j =
    cond (ltb i (lines_of l columns) && ltb j columns) (Some (written l (i * line_bytes columns + j * 17 + 2) 16)) None

-- byte k of columns that hold eight bytes each, the first in the highest place
abbrev pub column_byte : List ℕ → ℕ → ℕ
column_byte columns k = get_or columns (k / 8) 0 / 256 ^ (7 - k % 8) % 256
