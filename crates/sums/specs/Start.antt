-- The start of the rounds: noise.rs, `mean_quiet` at the quiet level.
use Rattle.std.specs.Prelude.{ℕ, zero, suc, Bool, cond, List, length, ◌==◌, Float}
use Rattle.std.specs.Float.{binary64}
use Rattle.std.specs.Float.Ieee.{add, div, le}
use Rattle.quantile.specs.Tally.{tally}
use Rattle.quantile.specs.Rising.{at}
use Rattle.quantile.specs.Quantile.{quiet}
use Rattle.ieee.specs.Numbers.{plus_zero, f64_of}

-- window k is quiet where its gate is at most q
abbrev pub is_quiet : List Float → Float → ℕ → Bool
is_quiet g q k = le (at g k) q

-- the outputs of the quiet ones among the first n windows, added in window order
abbrev pub quiet_sum : List Float → List Float → Float → ℕ → Float
quiet_sum o g q zero = plus_zero
quiet_sum o g q (suc n) = cond (is_quiet g q n) (add binary64 (quiet_sum o g q n) (at o n)) (quiet_sum o g q n)

-- the mean of n numbers, 0 where there is none
unfoldable pub mean : Float → ℕ → Float
mean sum n = cond (n == 0) plus_zero (div binary64 sum (f64_of n))

unfoldable pub mean_quiet : List Float → List Float → Float → Float
mean_quiet o g q = mean (quiet_sum o g q (length g)) (tally (is_quiet g q) (length g))

unfoldable pub start : List Float → List Float → Float
start g o = mean_quiet o g (quiet g)
