-- Only for the loops that fill the columns: what each asks of the slices and what it leaves in them. They come to `columns_in`.
use Rattle.std.specs.Prelude.{◌≡◌, List, ◌++◌, ℕ, ◌+◌, ◌*◌, ◌<◌, length, get_or, take, drop, ℤ}
use Rattle.laws.specs.Lists.{from}
use Rattle.window.specs.Window.{of_rows, pixels_at, stats_of}
use Rattle.window.specs.declared.WindowStats.{WindowStats}
use Rattle.window_stats.specs.Words.{word_at, rows_in}
use Rattle.measure.specs.Columns.{column_count, field}

-- ---- one row of the grid

-- the figures of window k of those that begin at place `at` of the image, s apart
abbrev pub figure_of : List ℕ → ℕ → ℕ → ℕ → ℕ → WindowStats
figure_of img w at s k = stats_of (pixels_at img w (at + k * s))

-- ---- the columns of a slice, each t long

abbrev pub column : ℕ → ℕ → List ℤ → List ℤ
column t c l = take t (drop (c * t) l)

-- f 0, f 1, .. , n of them, stand from place `to` of each column on
pub record Filled (t to n : ℕ) (f : ℕ → WindowStats) (old new : List ℤ) : Type 0 where
  pub each : (c : ℕ) → c < column_count
      → column t c new ≡ (take to (column t c old) ++ from (λ k. field c (f k)) 0 n) ++ drop (to + n) (column t c old)
  pub beyond : drop (column_count * t) new ≡ drop (column_count * t) old
  pub long : length new ≡ length old

-- ---- several windows side by side

-- a list whose first n are four pixels as one number each, from `at`, `at` + s, .. on; the others are as they were
unfoldable pub gathered : List ℕ → ℕ → ℕ → ℕ → List ℕ → List ℕ
gathered img at s n old = from (λ k. word_at img (at + k * s)) 0 n ++ drop n old

-- the figures of window k, its rows being number k of each list
abbrev pub figure_of_words : List ℕ → List ℕ → List ℕ → List ℕ → ℕ → WindowStats
figure_of_words a b c d k = stats_of (of_rows (rows_in (get_or a k 0) (get_or b k 0) (get_or c k 0) (get_or d k 0)))
