-- Figures in the i32 slice: a column for each figure, one after the other, each in sampling order.
use Rattle.std.specs.Prelude.{List, ◌++◌, map, ℕ, zero, suc, ◌+◌, ◌*◌, length, get_or, drop, ℤ, pos}
use Rattle.laws.specs.Lists.{from, joined}
use Rattle.window.specs.declared.WindowStats.{WindowStats}

-- how many columns
abbrev pub column_count : ℕ
column_count = 3

-- the figure that column c holds
abbrev pub field : ℕ → WindowStats → ℤ
field zero f = f.sum
field (suc zero) f = f.gate
field (suc (suc c)) f = f.op

-- the columns of a list of figures
abbrev pub columns : List WindowStats → List ℤ
columns fs = joined (λ c. map (field c) fs) 0 column_count

-- a slice that held old, with the columns at its front; what lies beyond is as it was
unfoldable pub columns_in : List WindowStats → List ℤ → List ℤ
columns_in fs old = columns fs ++ drop (column_count * length fs) old

-- window k's figures in a slice whose columns are t long, and those of all t
abbrev pub figure_in : ℕ → List ℤ → ℕ → WindowStats
figure_in t l k = record { sum = get_or l k (pos 0); gate = get_or l (t + k) (pos 0); op = get_or l (2 * t + k) (pos 0) }

unfoldable pub figures_in : ℕ → List ℤ → List WindowStats
figures_in t l = from (figure_in t l) 0 t
