-- The windows of a pass, by the places of their first pixels, in sampling order.
use Rattle.std.specs.Prelude.{◌≡◌, ◌↔◌, ◌⊎◌, ℕ, ◌+◌, ◌-◌, ◌*◌, ◌/◌, ◌%◌, ◌≤◌, ◌<◌, length}
use mathlib.Core.List.{List, [], ◌∷◌, Memᴰ}
use Rattle.laws.specs.Lists.{from, joined}
use Rattle.grid.specs.Step.{step_of}

pub record Place : Type 0 where
  pub x : ℕ
  pub y : ℕ

-- the first x of row j
abbrev pub first_x : ℕ → ℕ → ℕ
first_x j s = ((j * 618034) % 1000000) * s / 1000000

-- document 01's rule: a place of the grid is k steps from the first x of some row j, x < w - 3 and y < h - 3
pub record OnGrid (w h s : ℕ) (p : Place) : Type 0 where
  pub j : ℕ
  pub k : ℕ
  pub x_is : p.x ≡ first_x j s + k * s
  pub y_is : p.y ≡ j * s
  pub x_below : p.x < w - 3
  pub y_below : p.y < h - 3

-- sampling order: row by row, and along a row; each place stands before all that follow it
abbrev pub Before : Place → Place → Type 0
Before p q = (p.y < q.y) ⊎ ((p.y ≡ q.y) × (p.x < q.x))

abbrev pub InOrder : List Place → Type 0
InOrder [] = Unit {0}
InOrder (p ∷ l) = ((q : Place) → Memᴰ q l → Before p q) × InOrder l

-- n is how many of first, first + s, first + 2s, .. lie below end
abbrev pub IsCountBelow : ℕ → ℕ → ℕ → ℕ → Type 0
IsCountBelow first s end n = (k : ℕ) → (k < n) ↔ (first + k * s < end)

-- that number, s being 1 or more
abbrev pub count_below : ℕ → ℕ → ℕ → ℕ
count_below first s end = (end - first + (s - 1)) / s

-- row j: y is j × s; from its first x on every s while x < w - 3
abbrev pub row_count : ℕ → ℕ → ℕ → ℕ
row_count w s j = count_below (first_x j s) s (w - 3)

abbrev pub row_of : ℕ → ℕ → ℕ → List Place
row_of w s j = from (λ k. record { x = first_x j s + k * s; y = j * s }) 0 (row_count w s j)

-- the rows with y < h - 3
abbrev pub rows_of : ℕ → ℕ → ℕ
rows_of h s = count_below 0 s (h - 3)

unfoldable pub places_of : ℕ → ℕ → ℕ → List Place
places_of w h windows = let s = step_of (w * h) windows in joined (row_of w s) 0 (rows_of h s)

-- T
abbrev pub total_of : ℕ → ℕ → ℕ → ℕ
total_of w h windows = length (places_of w h windows)

-- the window at x, y, four pixels wide and four high, lies in the image
pub record Inside (w h x y : ℕ) : Type 0 where
  pub across : x + 4 ≤ w
  pub down : y + 4 ≤ h

-- sides that a pass takes: none above 16,384 and none below 4 (limits)
pub record Sides (w h : ℕ) : Type 0 where
  pub wide : 4 ≤ w
  pub high : 4 ≤ h
  pub w_most : w ≤ 16384
  pub h_most : h ≤ 16384
