-- The windows of a pass measured row by row: each column holds the rows measured so far. Assumes nothing.
use mathlib.Core.Path.{◌≡◌, refl, sym, ap, ◌∙◌, subst}
use mathlib.Core.List.{List, [], ◌++◌, map, map-map, append-nil}
use Prim.Native.Nat.{ℕ, ◌+◌, ◌-◌, ◌*◌, ◌≤◌, ◌<◌}
use native.Mathlib.Omega.{arith}
use lib.ListN.{length, drop, drop_of_length-le, length-map}
use lib.IntN.{ℤ}
use Rattle.laws.specs.Lists.{from, joined}
use Rattle.laws.proofs.Fill.{Rows, rows_start, rows_put, rows_end, length_from, joined_none}
use Rattle.window.specs.Window.{stats_of, pixels_at}
use Rattle.grid.specs.Step.{step_of}
use Rattle.grid.specs.Grid.{Place, Sides, first_x, row_count, row_of, rows_of, places_of, total_of}
use Rattle.grid.proofs.Steps.{step_is, step_most}
use Rattle.grid.proofs.Counts.{count_most}
use Rattle.grid.proofs.Places.{total_more, total_by_lem, inside_at, inside_pixels}
use Rattle.measure.specs.Figures.{figure_at, figures_of}
use Rattle.measure.specs.Loops.{figure_of, column, Filled}
use Rattle.measure.specs.Columns.{column_count, field, columns, columns_in}
use Rattle.measure.proofs.Columns.{column_long, whole}
use Rattle.measure.proofs.Rows.{from_same, joined_same, map_rows}

-- the numbers that describe a pass
pub record Pass (w h windows t s m : ℕ) : Type 0 where
  pub sides : Sides w h
  pub some : 1 ≤ windows
  pub total : t ≡ total_of w h windows
  pub step : s ≡ step_of (w * h) windows
  pub rows : m ≡ rows_of h s

module _ {w h windows t s m : ℕ} (p : Pass w h windows t s m) where
  pub step_some : 1 ≤ s
  step_some = subst (λ (n : ℕ). 1 ≤ n) (sym p.step) (step_is (w * h) windows p.some).some

  pub step_small : s ≤ 16384
  step_small = omega (arith, p.step, step_most w h windows p.sides p.some)

  pub rows_few : m ≤ 16384
  rows_few = omega (arith, p.rows, count_most 0 s (h - 3) step_some, p.sides.h_most)

places_by : (w h windows s m : ℕ) → s ≡ step_of (w * h) windows → m ≡ rows_of h s → joined (row_of w s) 0 m ≡ places_of w h windows
unfolding places_of
places_by w h windows s m e f = ap (λ (n : ℕ). joined (row_of w s) 0 n) f ∙ ap (λ (n : ℕ). joined (row_of w n) 0 (rows_of h n)) e

-- row j of column c
abbrev row_in : List ℕ → ℕ → ℕ → ℕ → ℕ → List ℤ
row_in img w s c j = from (λ k. field c (figure_of img w (j * s * w + first_x j s) s k)) 0 (row_count w s j)

pub record Measuring (img : List ℕ) (w s m t : ℕ) (l₀ : List ℤ) (l : List ℤ) (to j : ℕ) : Type 0 where
  pub low : j ≤ m
  pub left : to + length (joined (row_of w s) j (m - j)) ≡ t
  pub each : (c : ℕ) → c < column_count → Rows (row_in img w s c) (column t c l₀) m to j (column t c l)
  pub beyond : drop (column_count * t) l ≡ drop (column_count * t) l₀
  pub long : length l ≡ length l₀

pub begin : (img : List ℕ) (w h windows s m t : ℕ) (l : List ℤ) → Pass w h windows t s m → Measuring img w s m t l l 0 0
begin img w h windows s m t l p =
    record {
      low = omega arith;
      left = omega (arith, ap (λ (n : ℕ). length (joined (row_of w s) 0 n)) (all m), total_by_lem w h windows s m p.step p.rows, p.total);
      each = λ c g. rows_start;
      beyond = refl;
      long = refl;
    }
  where
    all : (n : ℕ) → n - 0 ≡ n
    all n = omega arith

module _ {img : List ℕ} {w s m t : ℕ} {l₀ l : List ℤ} {to j : ℕ} (i : Measuring img w s m t l₀ l to j) where
  pub room : j < m → to + row_count w s j ≤ t
  room g = omega (arith, i.left, total_more w s m j g)

  -- a row's windows lie in the image
  pub fits : {h windows : ℕ} → Pass w h windows t s m → length img ≡ w * h → j < m
      → (k : ℕ) → k < row_count w s j → j * s * w + first_x j s + k * s + 3 * w + 4 ≤ length img
  fits {h} {windows} p e g k q =
      omega (
        arith,
        e,
        inside_pixels w h (first_x j s + k * s) (j * s) (inside_at w h s j k (step_some p) (subst (λ (u : ℕ). j < u) p.rows g) q),
      )

  pub turn : {n at : ℕ} {l' : List ℤ} → column_count * t ≤ length l₀ → j < m → at ≡ j * s * w + first_x j s → n ≡ row_count w s j
      → Filled t to n (figure_of img w at s) l l' → Measuring img w s m t l₀ l' (to + n) (j + 1)
  turn {n} {at} {l'} f g a b e =
      subst (λ (u : ℕ). Measuring img w s m t l₀ l' (to + u) (j + 1)) (sym b)
      (go (subst (λ (u : ℕ). Filled t to u (figure_of img w (j * s * w + first_x j s) s) l l') b (subst (λ (u : ℕ). Filled t to n (figure_of img w u s) l l') a e)))
    where
      go : Filled t to (row_count w s j) (figure_of img w (j * s * w + first_x j s) s) l l' → Measuring img w s m t l₀ l' (to + row_count w s j) (j + 1)
      go e =
          record {
            low = omega arith;
            left = omega (arith, i.left, total_more w s m j g);
            each = λ c h. rows_put (i.each c h) g (length_from (λ k. field c (figure_of img w (j * s * w + first_x j s) s k)) 0 (row_count w s j)) (omega (arith, room g, column_long t c l₀ h f)) (e.each c h);
            beyond = e.beyond ∙ i.beyond;
            long = e.long ∙ i.long;
          }

  -- at the end all of t is written
  full : m ≤ j → to ≡ t
  full g = omega (arith, i.left, ap length (joined_none (row_of w s) j m g))

  pub done : {h windows : ℕ} → Pass w h windows t s m → column_count * t ≤ length l₀ → m ≤ j
      → l ≡ columns_in (figures_of img w h windows) l₀
  unfolding columns_in
  done {h} {windows} p f g =
      sym (whole t l)
      ∙ ap (λ (k : List ℤ). k ++ drop (column_count * t) l) (joined_same (λ c. column t c l) (λ c. map (field c) (figures_of img w h windows)) 0 column_count (λ c a b. col c (omega arith)))
      ∙ ap (λ (k : List ℤ). columns (figures_of img w h windows) ++ k) i.beyond
      ∙ ap (λ (n : ℕ). columns (figures_of img w h windows) ++ drop (column_count * n) l₀) (p.total ∙ sym (length-map (places_of w h windows) (figure_at img w)))
    where
      places : joined (row_of w s) 0 m ≡ places_of w h windows
      places = places_by w h windows s m p.step p.rows

      none : (c : ℕ) → c < column_count → drop to (column t c l₀) ≡ []
      none c q = drop_of_length-le (column t c l₀) {i = to} (omega (arith, full g, column_long t c l₀ q f))

      -- a row by the places of its windows
      placed : (c j : ℕ) → row_in img w s c j ≡ from (λ k. field c (figure_at img w (record { x = first_x j s + k * s; y = j * s }))) 0 (row_count w s j)
      placed c j =
          from_same (λ k. field c (figure_of img w (j * s * w + first_x j s) s k))
          (λ k. field c (figure_at img w (record { x = first_x j s + k * s; y = j * s }))) 0 (row_count w s j)
          (λ k a b. ap (λ (u : ℕ). field c (stats_of (pixels_at img w u))) (over (j * s * w) (first_x j s) (k * s)))
        where
          over : (a b c : ℕ) → a + b + c ≡ a + (b + c)
          over a b c = omega arith

      col : (c : ℕ) → c < column_count → column t c l ≡ map (field c) (figures_of img w h windows)
      col c q =
          rows_end (i.each c q) g
          ∙ ap (λ (k : List ℤ). joined (row_in img w s c) 0 m ++ k) (none c q)
          ∙ append-nil (joined (row_in img w s c) 0 m)
          ∙ joined_same (row_in img w s c) (λ j. from (λ k. field c (figure_at img w (record { x = first_x j s + k * s; y = j * s }))) 0 (row_count w s j)) 0 m (λ j a b. placed c j)
          ∙ map_rows (λ (q : Place). field c (figure_at img w q)) (λ j k. record { x = first_x j s + k * s; y = j * s }) (row_count w s) 0 m
          ∙ ap (map (λ (q : Place). field c (figure_at img w q))) places
          ∙ sym (map-map (field c) (figure_at img w) (places_of w h windows))
