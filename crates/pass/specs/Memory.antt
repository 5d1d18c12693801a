-- The work memory of a pass.
use Rattle.std.specs.Prelude.{ℕ, ◌+◌, ◌*◌}
use Rattle.measure.specs.Columns.{column_count}

-- how many numbers of each kind m windows take
abbrev pub ints_for : ℕ → ℕ
ints_for m = column_count * m

abbrev pub floats_for : ℕ → ℕ
floats_for m = 2 * m + 2
