-- Demand 1 at the noise call, for every argument: document 01's "Numbers the desk reads", row by row.
use Rattle.std.specs.Prelude.{◌≡◌, Bool, true, false, cond, ◌↔◌, List, ℕ, ◌+◌, ◌≤◌, ◌<◌, length}
use Rattle.ieee.specs.Numbers.{plus_zero}
use Rattle.limits.specs.Limits.{too_large, other_length, too_small}
use Rattle.window.specs.declared.WindowStats.{WindowStats}
use Rattle.grid.specs.Needed.{first_w, second_w}
use Rattle.measure.specs.Figures.{figures_of}
use Rattle.answer.specs.declared.Answer.{Answer}
use Rattle.pass.specs.Pass.{found_by, held_by}
use Rattle.noise.specs.Call.{one_runs, refused, noise_of}

-- the windows that an answer says are kept
abbrev pub kept_in : Answer → ℕ
kept_in a = a.b0 + a.b1 + a.b2 + a.b3

-- the figures of the pass that decides
abbrev pub deciding : List ℕ → ℕ → ℕ → List WindowStats
deciding img w h = cond (one_runs img w h) (figures_of img w h first_w) (figures_of img w h second_w)

-- nothing refuses
abbrev pub Taken : Bool → Bool → Bool → Bool → Type 0
Taken large other small short = (large ≡ false) × (other ≡ false) × (small ≡ false) × (short ≡ false)

-- by the causes: a side above 16,384, another number of pixels, a side below 4, memory too short; then an image's figures and an
-- answer to it
pub record Demand1 (large other small short : Bool) (fs : List WindowStats) (a : Answer) : Type 0 where
  -- no other number than 0 to 7
  pub most : a.number ≤ 7
  -- 1 to 4: the first cause that applies, beside zeros
  pub one : (a.number ≡ 1) ↔ (large ≡ true)
  pub two : (a.number ≡ 2) ↔ ((large ≡ false) × (other ≡ true))
  pub three : (a.number ≡ 3) ↔ ((large ≡ false) × (other ≡ false) × (small ≡ true))
  pub four : (a.number ≡ 4) ↔ ((large ≡ false) × (other ≡ false) × (small ≡ false) × (short ≡ true))
  pub zeros : 1 ≤ a.number → a.number ≤ 4 → a ≡ refused a.number
  -- nothing refuses, and under 512 windows are kept
  pub five : (a.number ≡ 5) ↔ (Taken large other small short × (kept_in a < 512))
  -- 512 kept, no band has a variance
  pub six : (a.number ≡ 6) ↔ (Taken large other small short × (512 ≤ kept_in a) × (found_by fs ≡ 0))
  -- the bands joined hold under 512
  pub seven : (a.number ≡ 7) ↔ (Taken large other small short × (512 ≤ kept_in a) × (0 < found_by fs) × (held_by fs < 512))
  -- a figure
  pub figure : (a.number ≡ 0) ↔ (Taken large other small short × (512 ≤ kept_in a) × (0 < found_by fs) × (512 ≤ held_by fs))
  -- sigma and milli are zero unless the number is 0
  pub unless : (a.number ≡ 0 → ⊥) → (a.sigma ≡ plus_zero) × (a.milli ≡ 0)

-- an answer to an image, memory being too short or not
abbrev pub Meets : List ℕ → ℕ → ℕ → Bool → Answer → Type 0
Meets img w h short a = Demand1 (too_large w h) (other_length (length img) w h) (too_small w h) short (deciding img w h) a

-- the noise call's
abbrev pub NoiseMeets : List ℕ → ℕ → ℕ → Bool → Type 0
NoiseMeets img w h short = Meets img w h short (noise_of img w h short)
