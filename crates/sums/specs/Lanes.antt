-- What only the code's loops over eight blocks side by side need; no definition uses it. Lane l has the block from
-- window a + 256 l on.
use Rattle.std.specs.Prelude.{◌≡◌, ℕ, zero, suc, ◌+◌, ◌*◌, ◌<◌, ◌≤◌, List, length, slice_index, Float}
use Rattle.std.specs.Float.{binary64}
use Rattle.std.specs.Float.Ieee.{add}
use Rattle.quantile.specs.Rising.{at}
use Rattle.sums.specs.Admitted.{block_sum, block_count}

-- sums and counts of the first i windows of each block
pub record Lanes (t c : Float) (g o : List Float) (a i : ℕ) (block : List Float) (count : List ℕ) : Type 0 where
  pub sums_long : length block ≡ 8
  pub counts_long : length count ≡ 8
  pub sums : (l : ℕ) → l < 8 → at block l ≡ block_sum t c g o (a + l * 256) i
  pub counts : (l : ℕ) → l < 8 → slice_index count l ≡ block_count t c g o (a + l * 256) i

-- none of eight counts is above a block's windows
pub record CountsFit (count : List ℕ) : Type 0 where
  pub each : (l : ℕ) → l < 8 → slice_index count l ≤ 256

-- sum and the first l lanes, added in f64 in block order
abbrev pub lanes_sum : List Float → Float → ℕ → Float
lanes_sum block sum zero = sum
lanes_sum block sum (suc l) = add binary64 (lanes_sum block sum l) (at block l)

abbrev pub lanes_count : List ℕ → ℕ → ℕ → ℕ
lanes_count count n zero = n
lanes_count count n (suc l) = lanes_count count n l + slice_index count l
