-- The quiet level: document 01, "Rounds".
use Rattle.std.specs.Prelude.{List, ℕ, ◌+◌, ◌-◌, ◌*◌, ◌/◌, max, length, Float}
use Rattle.quantile.specs.Rising.{at, rising}

-- of len gates those at places 0, stride, 2 stride and so on are taken, where the stride is max(1, ceil(len / 255))
abbrev pub stride : ℕ → ℕ
stride len = max 1 ((len + 254) / 255)

-- how many of len gates are taken
abbrev pub taken : ℕ → ℕ
taken len = (len + (stride len - 1)) / stride len

-- the value at place floor(n / 16), from 0, in rising order of the n gates taken
unfoldable pub quiet : List Float → Float
quiet g = at (rising (λ (i : ℕ). at g (i * stride (length g))) (taken (length g))) (taken (length g) / 16)
