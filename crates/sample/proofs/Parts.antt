-- What a later step finds in the two slices, and which pixels it can depend on. Assumes nothing.
use Rattle.std.proofs.Common.{◌≡◌, ℕ, ◌+◌, ◌-◌, ◌*◌, ◌<◌, ◌≤◌, List, [], ◌∷◌, ◌++◌, map, length, take, drop, ℤ, sym, refl, ap, ◌∙◌, append_assoc, arith, length-append, length-drop, length-take, drop-drop, take_at, drop_at}
use mathlib.Core.List.{Memᴰ}
use lib.ListN.{length-map}
use lib.Seq.{drop-append-add}
use lib.Ieee.{Float}
use Rattle.window.specs.declared.WindowStats.{WindowStats}
use Rattle.grid.specs.Grid.{Place, places_of, total_of}
use Rattle.measure.specs.Figures.{figure_at, figures_of}
use Rattle.measure.specs.Columns.{column_count, columns, columns_in}
use Rattle.band.specs.Bands.{banded, kept_of}
use Rattle.sample.specs.Laid.{gate32, square32, gates_of, squares_of, laid_in}
use Rattle.measure.proofs.Columns.{columns_count}

-- a pass has as many figures as windows
pub figures_long : (img : List ℕ) (w h windows : ℕ) → length (figures_of img w h windows) ≡ total_of w h windows
figures_long img w h windows = length-map (places_of w h windows) (figure_at img w)

-- ---- the f32 slice

gates_long : (fs : List WindowStats) → length (gates_of fs) ≡ kept_of fs
gates_long fs = length-map (banded fs) gate32

-- the gates are the first of it
pub gates_first : (fs : List WindowStats) (old : List Float) → take (kept_of fs) (laid_in fs old) ≡ gates_of fs
unfolding laid_in
gates_first fs old = take_at (gates_of fs) (take 1 (drop (kept_of fs) old) ++ (squares_of fs ++ drop (2 * kept_of fs + 1) old)) (kept_of fs) (gates_long fs)

-- the squared outputs begin one place after them
pub squares_next : (fs : List WindowStats) (old : List Float) → kept_of fs < length old → take (kept_of fs) (drop (kept_of fs + 1) (laid_in fs old)) ≡ squares_of fs
unfolding laid_in
squares_next fs old h =
    let n = kept_of fs in
    let back = squares_of fs ++ drop (2 * n + 1) old in
    ap (λ (x : List Float). take n x)
    (sym (drop-drop 1 n (laid_in fs old))
    ∙ ap (λ (x : List Float). drop 1 x) (drop_at (gates_of fs) (take 1 (drop n old) ++ back) n (gates_long fs))
    ∙ drop_at (take 1 (drop n old)) back 1 (omega (arith, length-take 1 (drop n old), length-drop n old)))
    ∙ take_at (squares_of fs) (drop (2 * n + 1) old) n (length-map (banded fs) square32)

-- ---- what lies beyond

module _ {A : Type 0} where
  -- past its front a list is the list that was there
  beyond : (front old : List A) (a n : ℕ) → length front ≡ a → a ≤ n → drop n (front ++ drop a old) ≡ drop n old
  beyond front old a n e h =
      ap (λ (m : ℕ). drop m (front ++ drop a old)) (past (length front) a n e h)
      ∙ drop-append-add front (drop a old) (n - a)
      ∙ drop-drop (n - a) a old
      ∙ ap (λ (m : ℕ). drop m old) (back a n h)
    where
      past : (l a n : ℕ) → l ≡ a → a ≤ n → n ≡ l + (n - a)
      past l a n e h = omega arith

      back : (a n : ℕ) → a ≤ n → a + (n - a) ≡ n
      back a n h = omega arith

  beyond_long : (front old : List A) (a : ℕ) → length front ≡ a → a ≤ length old → length (front ++ drop a old) ≡ length old
  beyond_long front old a e h = omega (arith, length-append front (drop a old), length-drop a old)

-- the i32 slice keeps its length, and what lies past the columns
pub columns_long : (fs : List WindowStats) (old : List ℤ) → column_count * length fs ≤ length old → length (columns_in fs old) ≡ length old
unfolding columns_in
columns_long fs old h = beyond_long (columns fs) old (column_count * length fs) (columns_count fs) h

pub columns_beyond : (fs : List WindowStats) (old : List ℤ) (n : ℕ) → column_count * length fs ≤ n → drop n (columns_in fs old) ≡ drop n old
unfolding columns_in
columns_beyond fs old n h = beyond (columns fs) old (column_count * length fs) n (columns_count fs) h

-- and so does the f32 slice
front_long : (fs : List WindowStats) (old : List Float) → kept_of fs < length old → length (gates_of fs ++ (take 1 (drop (kept_of fs) old) ++ squares_of fs)) ≡ 2 * kept_of fs + 1
front_long fs old h =
    let n = kept_of fs in
    let spare = take 1 (drop n old) in
    omega (
      arith,
      length-append (gates_of fs) (spare ++ squares_of fs),
      length-append spare (squares_of fs),
      gates_long fs,
      length-map (banded fs) square32,
      length-take 1 (drop n old),
      length-drop n old,
    )

laid_front : (fs : List WindowStats) (old : List Float) → laid_in fs old ≡ (gates_of fs ++ (take 1 (drop (kept_of fs) old) ++ squares_of fs)) ++ drop (2 * kept_of fs + 1) old
unfolding laid_in
laid_front fs old =
    let spare = take 1 (drop (kept_of fs) old) in
    let rest = drop (2 * kept_of fs + 1) old in
    ap (λ (x : List Float). gates_of fs ++ x) (sym (append_assoc spare (squares_of fs) rest)) ∙ sym (append_assoc (gates_of fs) (spare ++ squares_of fs) rest)

pub laid_long : (fs : List WindowStats) (old : List Float) → 2 * kept_of fs + 1 ≤ length old → length (laid_in fs old) ≡ length old
laid_long fs old h =
    ap length (laid_front fs old)
    ∙ beyond_long (gates_of fs ++ (take 1 (drop (kept_of fs) old) ++ squares_of fs)) old (2 * kept_of fs + 1) (front_long fs old (omega arith)) h

pub laid_beyond : (fs : List WindowStats) (old : List Float) (n : ℕ) → kept_of fs < length old → 2 * kept_of fs + 1 ≤ n → drop n (laid_in fs old) ≡ drop n old
laid_beyond fs old n g h =
    ap (λ (x : List Float). drop n x) (laid_front fs old)
    ∙ beyond (gates_of fs ++ (take 1 (drop (kept_of fs) old) ++ squares_of fs)) old (2 * kept_of fs + 1) n (front_long fs old g) h

-- ---- the pixels

map_same : {A B : Type 0} (f g : A → B) (l : List A) → ((a : A) → Memᴰ a l → f a ≡ g a) → map f l ≡ map g l
map_same f g [] e = refl
map_same {A} {B} f g (a ∷ l) e =
    ap (λ (b : B). b ∷ map f l) (e a (Memᴰ.head refl)) ∙ ap (λ (m : List B). g a ∷ m) (map_same f g l (λ b m. e b (Memᴰ.tail m)))

-- images that give each window of the pass the same figures give the pass the same list
pub figures_same : (a b : List ℕ) (w h windows : ℕ) → ((p : Place) → Memᴰ p (places_of w h windows) → figure_at a w p ≡ figure_at b w p)
    → figures_of a w h windows ≡ figures_of b w h windows
figures_same a b w h windows e = map_same (figure_at a w) (figure_at b w) (places_of w h windows) e
