-- Smoothing 1, 4, 6, 4, 1 down, then across.
use Rattle.std.specs.Prelude.{ℕ, ◌+◌, Float}
use Rattle.std.specs.Float.{binary32}
use Rattle.std.specs.Float.Ieee.{add, mul}
use Rattle.ieee.specs.Numbers.{f32_of}

-- by the source's operations: (a + e) + 4 (b + d) + 6 c
abbrev pub binomial : Float → Float → Float → Float → Float → Float
binomial a b c d e =
    add binary32 (add binary32 (add binary32 a e) (mul binary32 (f32_of 4) (add binary32 b d))) (mul binary32 (f32_of 6) c)

-- row y of `down` is made of rows y to y + 4, column x of `across` of columns x to x + 4
abbrev pub down : (ℕ → ℕ → Float) → ℕ → ℕ → Float
down t y x = binomial (t y x) (t (y + 1) x) (t (y + 2) x) (t (y + 3) x) (t (y + 4) x)

abbrev pub across : (ℕ → ℕ → Float) → ℕ → ℕ → Float
across t y x = binomial (t y x) (t y (x + 1)) (t y (x + 2)) (t y (x + 3)) (t y (x + 4))

-- 13 rows of 13; row 6 and column 6 are the centre's
abbrev pub smoothed : (ℕ → ℕ → Float) → ℕ → ℕ → Float
smoothed t = across (down t)
