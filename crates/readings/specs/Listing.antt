-- Document 01, "Lids with known readings": each starred reading is a row of one listing.
use Rattle.std.specs.Prelude.{◌≡◌, cond, false, ◌&&◌, List, [], ◌∷◌, ℕ, ◌+◌, ◌*◌, ◌%◌, eqb, pos, Float, Some, Ok}
use Rattle.std.specs.Float.{binary32, binary64}
use Rattle.std.specs.Float.Ieee.{of_int, round}
use Rattle.std.specs.Float.Ieee.Exact.{HasValue}
use Rattle.laws.specs.Lists.{from}
use Rattle.ieee.specs.Convert.{convert}
use Rattle.ieee.specs.Numbers.{plus_zero}
use Rattle.model.specs.Knots.{table, at_of}
use Rattle.window.specs.Window.{Window, stats_of}
use Rattle.band.specs.Bands.{band_of, rail}
use Rattle.grid.specs.Step.{step_of}
use Rattle.grid.specs.Grid.{first_x}
use Rattle.grid.specs.Needed.{first_w}

-- a knot's width, gain and residual, in eighths
pub record Knot : Type 0 where
  pub width : ℕ
  pub gain : ℕ
  pub residual : ℕ

abbrev pub knot : ℕ → ℕ → ℕ → Knot
knot width gain residual = record { width = width; gain = gain; residual = residual }

pub data Reading : Type 0 where
  -- a window, and its sum, gate and output
  window : Window → ℕ → ℕ → ℕ → Reading
  -- a pixel sum, and its band
  band : ℕ → ℕ → Reading
  -- a number of pixels, and the step at W = 8,192
  step : ℕ → ℕ → Reading
  -- a step and a row, and the row's first x
  first : ℕ → ℕ → ℕ → Reading
  -- a whole number, and the one that it is rounded to in f32
  rounding : ℕ → ℕ → Reading
  -- two knots, and a width with the gain and the residual there, in eighths
  knots : Knot → Knot → Knot → Reading

-- n / 8 as an f32
abbrev pub eighths : ℕ → Float
eighths n = round binary32 false n 8

-- the two knots' numbers in an array of sixteen
abbrev pub padded : ℕ → ℕ → List Float
padded a b = eighths a ∷ eighths b ∷ from (λ _. plus_zero) 0 14

-- what a row says
abbrev pub Holds : Reading → Type 0
Holds (window p sum gate output) = stats_of p ≡ record { sum = pos sum; gate = pos gate; op = pos output }
Holds (band sum b) = band_of (pos sum) ≡ b
Holds (step pixels s) = step_of pixels first_w ≡ s
Holds (first s j x) = first_x j s ≡ x
Holds (rounding n r) =
    HasValue (of_int binary32 (pos n)) false r 1 × HasValue (convert binary32 (of_int binary64 (pos n))) false r 1
Holds (knots a b c) =
    at_of
    (table 2 plus_zero (padded a.width b.width) (padded a.gain b.gain) (padded a.residual b.residual))
    (Some (eighths c.width))
    ≡ Ok (record { gain = eighths c.gain; residual = eighths c.residual })

abbrev pub listing : List Reading
listing =
    -- constant 100
    window (λ x y. pos 100) 1600 0 0
    -- pixel 1 at x = 0, y = 0, others 0
    ∷ window (λ x y. cond (eqb x 0 && eqb y 0) (pos 1) (pos 0)) 1 153 1
    -- 10x + 20y
    ∷ window (λ x y. pos (10 * x + 20 * y)) 720 0 0
    -- columns 100, 150, 100, 150
    ∷ window (λ x y. cond (eqb (x % 2) 0) (pos 100) (pos 150)) 2000 3200000 0
    -- 255 where x + y is even, else 0
    ∷ window (λ x y. cond (eqb ((x + y) % 2) 0) (pos 255) (pos 0)) 2040 33292800 8160
    ∷ band 191 rail
    ∷ band 3889 rail
    ∷ band 192 0
    ∷ band 1023 0
    ∷ band 1024 1
    ∷ band 3888 3
    ∷ step 8192 1
    ∷ step 8193 2
    ∷ step 32768 2
    ∷ step 32769 3
    ∷ first 2 1 1
    ∷ first 2 2 0
    ∷ first 3 1 1
    ∷ rounding 16777217 16777216
    ∷ rounding 16777219 16777220
    -- (1, 0.5, 0), (2, 0.25, 1): width 1.5 gives 0.375, 0.5
    ∷ knots (knot 8 4 0) (knot 16 2 8) (knot 12 3 4)
    ∷ []

-- every row of a listing holds
abbrev pub AllHold : List Reading → Type 0
AllHold [] = Unit {0}
AllHold (r ∷ l) = Holds r × AllHold l
