-- Document 02's rule on a record, in words and as a test. What breaks it is number 19.
use Rattle.std.specs.Prelude.{◌≡◌, Bool, cond, not, ◌&&◌, ◌||◌, ◌⊎◌, ℕ, ◌+◌, ◌≤◌, leb, eqb}
use Rattle.limits.specs.Limits.{too_large, too_small}
use Rattle.grid.specs.Grid.{Sides, total_of}
use Rattle.grid.specs.Needed.{first_w, second_w}
use Rattle.record.specs.declared.Record.{Record}

-- the windows kept, in all four bands
abbrev pub band_sum : Record → ℕ
band_sum r = r.b0 + r.b1 + r.b2 + r.b3

-- the bits of the f32 1,000; past them come larger floats, the NaNs and the minus sign
abbrev pub thousand_bits : ℕ
thousand_bits = 0x447A_0000

-- ---- in words

-- the answers that are stored
abbrev pub AnswerStored : ℕ → Type 0
AnswerStored a = (a ≡ 0) ⊎ (a ≡ 5) ⊎ (a ≡ 6) ⊎ (a ≡ 7)

pub record Allowed (r : Record) : Type 0 where
  -- 4 to 16,384
  pub sides : Sides r.width r.height
  pub answer : AnswerStored r.answer
  -- a figure: sigma from 0 to 1,000 without a minus sign, and 512 windows kept
  pub figure : r.answer ≡ 0 → (r.sigma ≤ thousand_bits) × (512 ≤ band_sum r)
  pub no_figure : (r.answer ≡ 0 → ⊥) → r.sigma ≡ 0
  -- the windows kept and dropped are all those of one of the two passes
  pub counts : (band_sum r + r.rail ≡ total_of r.width r.height first_w)
      ⊎ (band_sum r + r.rail ≡ total_of r.width r.height second_w)

-- ---- as a test

unfoldable pub stored_answer : ℕ → Bool
stored_answer a = eqb a 0 || eqb a 5 || eqb a 6 || eqb a 7

-- of an answer, sigma's bits and the windows kept
unfoldable pub sigma_taken : ℕ → ℕ → ℕ → Bool
sigma_taken a bits kept = cond (eqb a 0) (leb bits thousand_bits && leb 512 kept) (eqb bits 0)

-- of the sides and all windows
unfoldable pub counts_taken : ℕ → ℕ → ℕ → Bool
counts_taken w h n = eqb n (total_of w h first_w) || eqb n (total_of w h second_w)

unfoldable pub allowed : Record → Bool
allowed r =
    not (too_large r.width r.height) && (not (too_small r.width r.height) && (stored_answer r.answer
    && (sigma_taken r.answer r.sigma (band_sum r) && counts_taken r.width r.height (band_sum r + r.rail))))
