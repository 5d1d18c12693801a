-- The windows that a variance admits: noise.rs, `Band::admitted`. A band is a list of gates g and a list of squared outputs o.
use Rattle.std.specs.Prelude.{ℕ, zero, suc, ◌+◌, ◌-◌, ◌*◌, ◌/◌, min, Bool, cond, ◌&&◌, List, length, Float}
use Rattle.std.specs.Float.{binary32, binary64}
use Rattle.std.specs.Float.Ieee.{add, mul, lt, le}
use Rattle.ieee.specs.Convert.{convert}
use Rattle.ieee.specs.Order.{larger}
use Rattle.quantile.specs.Tally.{tally}
use Rattle.quantile.specs.Rising.{at}
use Rattle.ieee.specs.Numbers.{plus_zero}
use Rattle.sums.specs.Numbers.{gate_factor, trunc, rounding_op_var}
use Rattle.sums.specs.declared.Total.{Total}

-- so many times a variance, rounded to f64 and then to f32
abbrev pub limit : Float → Float → Float
limit factor var = convert binary32 (mul binary64 factor (larger var rounding_op_var))

-- a gate is below the one, a squared output at most the other
unfoldable pub threshold : Float → Float
threshold var = limit gate_factor var

unfoldable pub cut : Float → Float
cut var = limit (mul binary64 trunc trunc) var

-- a window of that gate and output is admitted, and adds so much to its block
abbrev pub keeps : Float → Float → Float → Float → Bool
keeps t c g o = lt g t && le o c

abbrev pub value : Float → Float → Float → Float → Float
value t c g o = cond (keeps t c g o) o plus_zero

-- the m windows from window a on, summed in f32
abbrev pub block_sum : Float → Float → List Float → List Float → ℕ → ℕ → Float
block_sum t c g o a zero = plus_zero
block_sum t c g o a (suc m) = add binary32 (block_sum t c g o a m) (value t c (at g (a + m)) (at o (a + m)))

-- how many of them are admitted
abbrev pub block_count : Float → Float → List Float → List Float → ℕ → ℕ → ℕ
block_count t c g o a m = tally (λ (k : ℕ). keeps t c (at g (a + k)) (at o (a + k))) m

-- the first i blocks, of 256 windows each but for the last, summed in f64
abbrev pub blocks_sum : Float → Float → List Float → List Float → ℕ → Float
blocks_sum t c g o zero = plus_zero
blocks_sum t c g o (suc i) = add binary64 (blocks_sum t c g o i) (block_sum t c g o (i * 256) (min 256 (length g - i * 256)))

-- how many blocks n windows make
abbrev pub blocks : ℕ → ℕ
blocks n = (n + 255) / 256

abbrev pub total_with : ℕ → Float → Total
total_with n sum = record { n = n; sum = sum }

-- no windows
abbrev pub no_total : Total
no_total = total_with 0 plus_zero

-- how many windows are admitted, and their sum by blocks
abbrev pub admitted_by : Float → Float → List Float → List Float → Total
admitted_by t c g o = total_with (tally (λ (k : ℕ). keeps t c (at g k) (at o k)) (length g)) (blocks_sum t c g o (blocks (length g)))

abbrev pub admitted_at : List Float → List Float → Float → Float → Total
admitted_at g o gateVar opVar = admitted_by (threshold gateVar) (cut opVar) g o
