-- The disk of the smoothed square: the 81 offsets with dx² + dy² ≤ 25, rows first. Place k is row k / 17 and column k % 17.
use Rattle.std.specs.Prelude.{ℕ, ◌+◌, ◌*◌, ◌-◌, ◌/◌, ◌%◌, Bool, List, leb}
use Rattle.laws.specs.Lists.{from}
use Rattle.levels.specs.Filtered.{filtered}

-- how far a row or a column is from the centre's
abbrev pub away : ℕ → ℕ
away a = (a - 6) + (6 - a)

abbrev pub in_disk : ℕ → Bool
in_disk k = leb (away (k % 17) * away (k % 17) + away (k / 17) * away (k / 17)) 25

unfoldable pub disk : List ℕ
disk = filtered in_disk (from (λ k. k) 0 221)
