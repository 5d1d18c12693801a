-- Only for the loops: the five values that a pass adds, as they lie in memory.
use Rattle.std.specs.Prelude.{ℕ, ◌+◌, ◌*◌, List, get_or, Float}
use Rattle.std.specs.Float.{nan}
use Rattle.disk.specs.Smoothing.{binomial}

-- from place k of a list on, each a stride after the one before
abbrev pub strided : List Float → ℕ → ℕ → Float
strided l k stride =
    binomial (get_or l k nan) (get_or l (k + stride) nan) (get_or l (k + 2 * stride) nan)
    (get_or l (k + 3 * stride) nan) (get_or l (k + 4 * stride) nan)
