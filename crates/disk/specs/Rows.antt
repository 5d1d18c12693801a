-- Squares of values by row and column, and in memory: rows of 17.
use Rattle.std.specs.Prelude.{ℕ, ◌+◌, ◌*◌, ◌/◌, ◌%◌, List, get_or, Float}
use Rattle.std.specs.Float.{nan}
use Rattle.laws.specs.Lists.{from}

-- the first n values of t in rows of 17, and such a list read by row and column
abbrev pub in_rows : (ℕ → ℕ → Float) → ℕ → List Float
in_rows t n = from (λ k. t (k / 17) (k % 17)) 0 n

abbrev pub read : List Float → ℕ → ℕ → Float
read l y x = get_or l (y * 17 + x) nan
