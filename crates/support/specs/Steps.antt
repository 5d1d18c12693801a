-- What the code's test of a pixel needs alone: distance past an origin and test as one value. Laws: `in_side_lem`, `steps_are`.
use Rattle.std.specs.Prelude.{ℕ, cond, ltb, ℤ, pos, negsuc, ◌-ℤ◌, Option, Some, None}

-- a difference that is one of 0, .. , n - 1
unfoldable pub past : ℤ → ℕ → Option ℕ
past (pos i) n = cond (ltb i n) (Some i) None
past (negsuc i) n = None

-- how far x lies past o, where that is one of the n places from o on
abbrev pub past_origin : ℤ → ℤ → ℕ → Option ℕ
past_origin x o n = past (x -ℤ o) n
