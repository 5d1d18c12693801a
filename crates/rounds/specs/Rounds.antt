-- The rounds of the image and of a band: noise.rs, `Sample::image_variance` and `Band::variance`; document 01, "Rounds".
use Rattle.std.specs.Prelude.{◌≡◌, Bool, cond, not, ◌&&◌, ◌||◌, List, ℕ, zero, suc, ◌+◌, ◌-◌, ◌≤◌, ◌<◌, eqb, ltb, leb, length, get_or, take, drop, Option, Some, None, Float}
use Rattle.std.specs.declared.ops.ControlFlow.{ControlFlow}
use Rattle.std.specs.declared.ops.ControlFlow.TheVariants.{Break, Continue}
use Rattle.std.specs.Float.{binary64}
use Rattle.std.specs.Float.Ieee.{add, sub, mul, div, lt, le}
use Rattle.ieee.specs.Order.{larger, magnitude}
use Rattle.ieee.specs.Numbers.{f64_of}
use Rattle.sums.specs.Numbers.{rounding_op_var}
use Rattle.rounds.specs.Numbers.{max_band_ratio, settled_fraction, trunc_second_moment}
use Rattle.sums.specs.Admitted.{total_with, no_total, admitted_at}
use Rattle.sums.specs.Start.{start}
use Rattle.sums.specs.declared.Total.{Total}
use Rattle.rounds.specs.declared.Settled.{Settled}
use Rattle.rounds.specs.declared.Found.{Found}
use Rattle.rounds.specs.declared.BandVariance.{BandVariance}

-- ---- rounds over any windows, where `f v` is what a variance v admits of them

-- the next variance
unfoldable pub next : Total → Float
next k = div binary64 (div binary64 k.sum (f64_of k.n)) trunc_second_moment

-- as many are admitted as before, or the variance moves by a thousandth at most
unfoldable pub near : ℕ → ℕ → Float → Float → Bool
near n prev new var = eqb n prev || le (magnitude (sub binary64 new var)) (mul binary64 settled_fraction var)

abbrev pub settled_at : ℕ → Float → ℕ → Settled
settled_at n var r = record { n = n; var = var; rounds = r }

-- a round breaks where it is the last one, and goes on otherwise
abbrev pub Round : Type 0
Round = ControlFlow Settled Settled

abbrev pub round_of : Settled → Bool → Round
round_of s last = cond last (Break s) (Continue s)

-- where it ends
abbrev pub ended : Round → Settled
ended (Break s) = s
ended (Continue s) = s

-- one round that admits k, after those that ended at s: it is the last where it admits none or settles
unfoldable pub one_round : Total → Settled → Round
one_round k s =
    cond (eqb k.n 0) (Break (settled_at 0 s.var (s.rounds + 1)))
    (round_of (settled_at k.n (next k) (s.rounds + 1)) (near k.n s.n (next k) s.var))

-- what follows a round, where it is not the last one
abbrev pub followed : (Settled → Settled) → Round → Settled
followed more (Break s) = s
followed more (Continue s) = more s

-- at most `left` rounds more, after those that ended at s
abbrev pub rounds_from : (Float → Total) → ℕ → Settled → Settled
rounds_from f zero s = s
rounds_from f (suc left) s = followed (rounds_from f left) (one_round (f s.var) s)

-- ROUNDS
unfoldable pub max_rounds : ℕ
max_rounds = 12

-- before the first round: no count, which is usize::MAX
abbrev pub start_at : Float → Settled
start_at var = settled_at 18446744073709551615 var 0

unfoldable pub settle : (Float → Total) → Float → Settled
settle f var = rounds_from f max_rounds (start_at var)

-- ---- a band

abbrev pub band_total : List Float → List Float → Float → Total
band_total g o var = admitted_at g o var var

-- MIN_BAND_SAMPLES
abbrev pub min_band_samples : ℕ
min_band_samples = 128

abbrev pub found_at : ℕ → Float → Found
found_at n var = record { n = n; var = var }

-- a variance counts where it rests on 128 windows and is not above 8 times the image's
unfoldable pub judged_band : Settled → Float → Option Found
judged_band s image =
    cond (leb min_band_samples s.n && not (lt (mul binary64 max_band_ratio (larger image rounding_op_var)) s.var))
    (Some (found_at s.n s.var)) None

abbrev pub band_by : Settled → Float → BandVariance
band_by s image = record { found = judged_band s image; rounds = s.rounds }

-- a band under 128 windows has no variance and no rounds
unfoldable pub band_variance : List Float → List Float → Float → BandVariance
band_variance g o image =
    cond (ltb (length g) min_band_samples) (record { found = None; rounds = 0 })
    (band_by (settle (band_total g o) (start g o)) image)

-- ---- the image: four bands one after the other, band b from start b to start (b + 1)

abbrev pub part : List Float → ℕ → ℕ → List Float
part l a e = take (e - a) (drop a l)

abbrev pub band : List Float → List ℕ → ℕ → List Float
band l starts b = part l (get_or starts b 0) (get_or starts (b + 1) 0)

pub record Bands (g o : List Float) (starts : List ℕ) : Type 0 where
  pub same : length g ≡ length o
  pub rise : (b : ℕ) → b < 4 → get_or starts b 0 ≤ get_or starts (b + 1) 0
  pub last : get_or starts 4 0 ≤ length g

abbrev pub add_total : Total → Total → Total
add_total k l = total_with (k.n + l.n) (add binary64 k.sum l.sum)

-- what the first b bands admit: blocks start anew at each band
abbrev pub bands_total : List Float → List Float → List ℕ → Float → ℕ → Total
bands_total g o starts var zero = no_total
bands_total g o starts var (suc b) = add_total (bands_total g o starts var b) (band_total (band g starts b) (band o starts b) var)

unfoldable pub image_total : List Float → List Float → List ℕ → Float → Total
image_total g o starts var = bands_total g o starts var 4

unfoldable pub image_variance : List Float → List Float → List ℕ → Settled
image_variance g o starts = settle (image_total g o starts) (start g o)
