-- Demand 1 at the edge call, for every argument: a width or one of 1, 2, 8, 9, each exactly when its cause is the first to apply.
use Rattle.std.specs.Prelude.{◌≡◌, Bool, true, false, ◌||◌, ◌↔◌, ◌⊎◌, List, ℕ, length, ℤ, Float, refl}
use Rattle.std.specs.Float.Ieee.{lt}
use Rattle.ieee.specs.Numbers.{f32_of}
use Rattle.limits.specs.Limits.{too_large, other_length, far_place}
use Rattle.levels.specs.Levels.{high_level, low_level}
use Rattle.steepness.specs.Steepness.{steepness}
use Rattle.disk.specs.Smoothing.{smoothed}
use Rattle.disk.specs.Gradients.{values, gradients}
use Rattle.numbers.specs.Numbers.{number_of}
use Rattle.numbers.specs.declared.Number.{Number}
use Rattle.numbers.specs.declared.Number.TheVariants.{SideAbove, OtherLength, Far, Flat}
use Rattle.tile.specs.declared.EdgeWidth.{EdgeWidth}
use Rattle.tile.specs.declared.EdgeWidth.TheVariants.{Width, Refused}
use Rattle.tile.specs.Tile.{tile}
use Rattle.tile.specs.Width.{edge_width_of}
use Rattle.edge.specs.Edge.{edge}

-- by the causes: a side above 16,384, another number of pixels, a centre or an origin far off, a gradient mean above zero
pub record Demand1 (large other far steep : Bool) (width : Float) (r : EdgeWidth) : Type 0 where
  pub one : (r ≡ Refused SideAbove) ↔ (large ≡ true)
  pub two : (r ≡ Refused OtherLength) ↔ ((large ≡ false) × (other ≡ true))
  pub eight : (r ≡ Refused Far) ↔ ((large ≡ false) × (other ≡ false) × (far ≡ true))
  pub nine : (r ≡ Refused Flat) ↔ ((large ≡ false) × (other ≡ false) × (far ≡ false) × (steep ≡ false))
  pub figure : (x : Float) → (r ≡ Width x) ↔ ((large ≡ false) × (other ≡ false) × (far ≡ false) × (steep ≡ true) × (x ≡ width))
  pub no_other : (why : Number) → r ≡ Refused why → (why ≡ SideAbove) ⊎ (why ≡ OtherLength) ⊎ (why ≡ Far) ⊎ (why ≡ Flat)

-- document 01's numbers of these
pub numbers : (number_of SideAbove ≡ 1) × (number_of OtherLength ≡ 2) × (number_of Far ≡ 8) × (number_of Flat ≡ 9)
numbers = (refl, refl, refl, refl)

-- the smoothed square, its levels and its gradient mean
abbrev pub square : List ℕ → ℕ → ℕ → List ℤ → List ℤ → ℕ → ℕ → Float
square l w h origin centre = smoothed (tile l w h origin centre)

abbrev pub high : List ℕ → ℕ → ℕ → List ℤ → List ℤ → Float
high l w h origin centre = high_level (values (square l w h origin centre))

abbrev pub low : List ℕ → ℕ → ℕ → List ℤ → List ℤ → Float
low l w h origin centre = low_level (values (square l w h origin centre))

abbrev pub gradient : List ℕ → ℕ → ℕ → List ℤ → List ℤ → Float
gradient l w h origin centre = steepness (gradients (square l w h origin centre))

abbrev pub EdgeMeets : List ℕ → ℕ → ℕ → List ℤ → List ℤ → Type 0
EdgeMeets l w h origin centre =
    Demand1 (too_large w h) (other_length (length l) w h) (far_place centre || far_place origin)
    (lt (f32_of 0) (gradient l w h origin centre))
    (edge_width_of (high l w h origin centre) (low l w h origin centre) (gradient l w h origin centre))
    (edge l w h origin centre)
