-- Rows of pixels laid one after the other are the tile in rows.
use mathlib.Core.Path.{◌≡◌, refl, sym, ap, ◌∙◌, subst}
use mathlib.Core.List.{List, [], ◌∷◌, ◌++◌, append-nil}
use Prim.Native.Nat.{ℕ, zero, suc, ◌+◌, ◌*◌, ◌-◌, ◌/◌, ◌%◌, ◌≤◌, ◌<◌}
use native.Mathlib.Omega.{arith}
use borrow.Author.Tests.{ne_eqb}
use lib.Dec.{eqb}
use mathlib.Core.Bool.{Bool, true, false, ◌||◌}
use lib.ListN.{length, get_or, replicate, drop_of_length-le}
use lib.IntN.{ℤ, pos, negsuc, suc_ℤ, nat_abs, ◌+ℤ◌, ◌-ℤ◌, suc_ℤ-+ℤ, +ℤ_idl}
use lib.Ieee.{Float, binary32, of_bits}
use Rattle.laws.specs.Lists.{from, joined, laid}
use Rattle.laws.proofs.Fill.{length_from, get_d_from, Rows, rows_put, rows_end}
use Rattle.laws.proofs.Ring.{ring, v, k as lit, ◌⊕◌, ◌⊖◌}
use Rattle.laws.proofs.Machine.{held}
use Rattle.imageview.specs.Sample.{clamped, pixel}
use Rattle.imageview.proofs.Nearest.{clamped_most, in_image}
use Rattle.ieee.specs.Numbers.{f32_of}
use Rattle.levels.proofs.Constants.{zero_is}
use Rattle.disk.specs.Rows.{in_rows}
use Rattle.tile.specs.Tile.{tile}

-- a sample of each of 17 pixels
abbrev pub row_from : (ℕ → ℕ) → List Float
row_from f = from (λ i. f32_of (f i)) 0 17

-- the pixel in column i of the row that begins at `start`
abbrev pub picked : List ℕ → ℕ → List ℕ → ℕ → ℕ
picked l start columns i = get_or l (start + get_or columns i 0) 0

from_same : {A : Type 0} (f g : ℕ → A) (k n : ℕ) → ((i : ℕ) → i < k + n → f i ≡ g i) → from f k n ≡ from g k n
from_same f g k zero h = refl
from_same f g k (suc n) h = λ j. h k (omega arith) j ∷ from_same f g (suc k) n (λ i p. h i (omega arith)) j

zeros : (f : ℕ → Float) (k n : ℕ) → ((i : ℕ) → f i ≡ f32_of 0) → replicate n (of_bits binary32 0) ≡ from f k n
zeros f k zero h = refl
zeros f k (suc n) h = λ j. (zero_is ∙ sym (h k)) j ∷ zeros f (suc k) n h j

-- 17 rows of 17 one after the other
square : (f : ℕ → ℕ → Float) → joined (λ j. from (f j) 0 17) 0 17 ≡ from (λ k. f (k / 17) (k % 17)) 0 289
square f = refl

-- the places of a row or a column
abbrev pub near : ℤ → ℤ → ℕ → ℕ → ℕ
near c o most i = clamped ((c +ℤ (pos i -ℤ pos 8)) +ℤ o) most

near_at : (c o : ℤ) (most : ℕ) (places : List ℕ) → places ≡ from (near c o most) 0 17 → (i : ℕ) → i < 17 → get_or places i 0 ≡ near c o most i
near_at c o most places e i h = ap (λ (l : List ℕ). get_or l i 0) e ∙ get_d_from (near c o most) 0 17 0 i h ∙ ap (near c o most) (go i)
  where
    go : (i : ℕ) → 0 + i ≡ i
    go i = omega arith

-- what the machine holds of the numbers is these
pub places_held : (most : ℕ) (c o : ℤ) → held c ≡ c → held o ≡ o → from (near (held c) (held o) most) 0 17 ≡ from (near c o most) 0 17
places_held most c o p q = λ t. from (near (p t) (q t) most) 0 17

pub size_held : (c : ℤ) → held c ≡ c → nat_abs c ≤ 1000000 → nat_abs (held c) ≤ 1000000
size_held c e h = subst (λ (z : ℤ). nat_abs z ≤ 1000000) (sym e) h

-- the next place is at most one further
clamped_step : (z : ℤ) (most : ℕ) → clamped (suc_ℤ z) most ≤ clamped z most + 1
unfolding clamped
clamped_step (pos n) most = omega arith
clamped_step (negsuc zero) most = omega arith
clamped_step (negsuc (suc n)) most = omega arith

near_step : (c o : ℤ) (most i : ℕ) → near c o most (i + 1) ≤ near c o most i + 1
near_step c o most i =
    subst (λ (z : ℤ). clamped z most ≤ near c o most i + 1) (up ((c +ℤ (pos i -ℤ pos 8)) +ℤ o) ∙ ring (c ∷ o ∷ pos i ∷ []) (lit (pos 1) ⊕ ((v 0 ⊕ (v 2 ⊖ lit (pos 8))) ⊕ v 1)) ((v 0 ⊕ ((v 2 ⊕ lit (pos 1)) ⊖ lit (pos 8))) ⊕ v 1) tt) (clamped_step ((c +ℤ (pos i -ℤ pos 8)) +ℤ o) most)
  where
    up : (z : ℤ) → suc_ℤ z ≡ pos 1 +ℤ z
    up z = sym (suc_ℤ-+ℤ (pos 0) z ∙ ap suc_ℤ (+ℤ_idl z))

near_steps : (c o : ℤ) (most i d : ℕ) → near c o most (i + d) ≤ near c o most i + d
near_steps c o most i zero = subst (λ (k : ℕ). near c o most k ≤ near c o most i + 0) (go i) (omega arith)
  where
    go : (i : ℕ) → i ≡ i + 0
    go i = omega arith
near_steps c o most i (suc d) =
    subst (λ (k : ℕ). near c o most k ≤ near c o most i + suc d) (go i d) (further (near c o most (i + d + 1)) (near c o most (i + d)) (near c o most i) (near_step c o most (i + d)) (near_steps c o most i d))
  where
    go : (i d : ℕ) → i + d + 1 ≡ i + suc d
    go i d = omega arith

    further : (a b n : ℕ) → a ≤ b + 1 → b ≤ n + d → a ≤ n + suc d
    further a b n p q = omega arith

-- where the last place is 16 past the first, each is one past the one before
near_run : (c o : ℤ) (most : ℕ) → near c o most 16 ≡ near c o most 0 + 16 → (i : ℕ) → i < 17 → near c o most i ≡ near c o most 0 + i
near_run c o most e i h =
    go (near c o most 0) (near c o most i) (near c o most 16) e (upto i (near_steps c o most 0 i)) (rest (near_steps c o most i (16 - i)))
  where
    upto : (i : ℕ) → near c o most (0 + i) ≤ near c o most 0 + i → near c o most i ≤ near c o most 0 + i
    upto i p = subst (λ (k : ℕ). near c o most k ≤ near c o most 0 + i) (zero_more i) p
      where
        zero_more : (i : ℕ) → 0 + i ≡ i
        zero_more i = omega arith

    rest : near c o most (i + (16 - i)) ≤ near c o most i + (16 - i) → near c o most 16 ≤ near c o most i + (16 - i)
    rest p = subst (λ (k : ℕ). near c o most k ≤ near c o most i + (16 - i)) (whole_run i h) p
      where
        whole_run : (i : ℕ) → i < 17 → i + (16 - i) ≡ 16
        whole_run i h = omega arith

    go : (a b c : ℕ) → c ≡ a + 16 → b ≤ a + i → c ≤ b + (16 - i) → b ≡ a + i
    go a b c e p q = omega arith

-- row j as it is laid
abbrev pub row_of : List ℕ → ℕ → List ℕ → List ℕ → ℕ → List Float
row_of l w columns rows j = row_from (picked l (get_or rows j 0 * w) columns)

pub row_laid : (l : List ℕ) (w : ℕ) (columns rows : List ℕ) (samples₀ : List Float) {samples samples' : List Float} {j : ℕ} → length samples₀ ≡ 289 → Rows (row_of l w columns rows) samples₀ 17 (j * 17) j samples → j < 17
    → samples' ≡ laid samples (j * 17) (row_of l w columns rows j) → Rows (row_of l w columns rows) samples₀ 17 ((j + 1) * 17) (j + 1) samples'
row_laid l w columns rows samples₀ {samples} {samples'} {j} q r h e =
    subst (λ (n : ℕ). Rows (row_of l w columns rows) samples₀ 17 n (j + 1) samples') (go j)
    (rows_put r h (length_from (λ i. f32_of (picked l (get_or rows j 0 * w) columns i)) 0 17) (omega arith) e)
  where
    go : (j : ℕ) → j * 17 + 17 ≡ (j + 1) * 17
    go j = omega arith

or_true : (b : Bool) → (b || true) ≡ true
or_true true = refl
or_true false = refl

no_side : (w h : ℕ) → w * h ≡ 0 → (eqb w 0 || eqb h 0) ≡ true
no_side zero h z = refl
no_side (suc w) zero z = or_true (eqb (suc w) 0)
no_side (suc w) (suc h) z = absurd (omega arith)

module _ (l : List ℕ) (w h : ℕ) (origin centre : List ℤ) where
  -- an image without a pixel gives zeros
  none : (y x : ℕ) → (eqb w 0 || eqb h 0) ≡ true → tile l w h origin centre y x ≡ f32_of 0
  unfolding pixel
  none y x e = rw e refl

  pub no_pixel : w * h ≡ 0 → replicate 289 (of_bits binary32 0) ≡ in_rows (tile l w h origin centre) 289
  no_pixel z = zeros (λ k. tile l w h origin centre (k / 17) (k % 17)) 0 289 (λ k. none (k / 17) (k % 17) (no_side w h z))

  module _ (columns rows : List ℕ) (cs : columns ≡ from (near (get_or centre 0 (pos 0)) (get_or origin 0 (pos 0)) (w - 1)) 0 17) (rs : rows ≡ from (near (get_or centre 1 (pos 0)) (get_or origin 1 (pos 0)) (h - 1)) 0 17) (p : w ≡ 0 → ⊥) (q : h ≡ 0 → ⊥) where
    abbrev row : ℕ → ℕ
    row j = near (get_or centre 1 (pos 0)) (get_or origin 1 (pos 0)) (h - 1) j

    abbrev column : ℕ → ℕ
    column i = near (get_or centre 0 (pos 0)) (get_or origin 0 (pos 0)) (w - 1) i

    row_is : (j : ℕ) → j < 17 → get_or rows j 0 ≡ row j
    row_is j a = near_at (get_or centre 1 (pos 0)) (get_or origin 1 (pos 0)) (h - 1) rows rs j a

    column_is : (i : ℕ) → i < 17 → get_or columns i 0 ≡ column i
    column_is i b = near_at (get_or centre 0 (pos 0)) (get_or origin 0 (pos 0)) (w - 1) columns cs i b

    pub within : (j i : ℕ) → j < 17 → i < 17 → get_or rows j 0 * w + get_or columns i 0 < w * h
    within j i a b = in_image w h (get_or columns i 0) (get_or rows j 0) p q (most (column_is i b) (clamped_most _ (w - 1))) (most (row_is j a) (clamped_most _ (h - 1)))
      where
        most : {x y n : ℕ} → x ≡ y → y ≤ n → x ≤ n
        most e g = omega arith

    column_run : get_or columns 16 0 ≡ get_or columns 0 0 + 16 → (i : ℕ) → i < 17 → get_or columns i 0 ≡ get_or columns 0 0 + i
    column_run e i b =
        column_is i b
        ∙ near_run (get_or centre 0 (pos 0)) (get_or origin 0 (pos 0)) (w - 1) (sym (column_is 16 (omega arith)) ∙ e ∙ ap (λ (n : ℕ). n + 16) (column_is 0 (omega arith))) i b
        ∙ ap (λ (n : ℕ). n + i) (sym (column_is 0 (omega arith)))

    -- columns that follow one another are a run of pixels
    pub run_is : get_or columns 16 0 ≡ get_or columns 0 0 + 16 → (j : ℕ) → row_from (λ i. get_or l (get_or rows j 0 * w + get_or columns 0 0 + i) 0) ≡ row_of l w columns rows j
    run_is e j =
        from_same (λ i. f32_of (get_or l (get_or rows j 0 * w + get_or columns 0 0 + i) 0)) (λ i. f32_of (picked l (get_or rows j 0 * w) columns i)) 0 17
        (λ i b. ap (λ (n : ℕ). f32_of (get_or l n 0)) (go (get_or rows j 0 * w) (get_or columns 0 0) i (column_run e i b)))
      where
        go : (a f i : ℕ) {c : ℕ} → c ≡ f + i → a + f + i ≡ a + c
        go a f i e = omega arith

    picked_is : (j i : ℕ) → j < 17 → i < 17 → f32_of (picked l (get_or rows j 0 * w) columns i) ≡ tile l w h origin centre j i
    unfolding pixel
    picked_is j i a b =
        rw (ne_eqb w 0 p, ne_eqb h 0 q) (λ t. f32_of (get_or l (row_is j a t * w + column_is i b t) 0))

    pub tile_is : {samples₀ samples : List Float} {j : ℕ} → length samples₀ ≡ 289 → Rows (row_of l w columns rows) samples₀ 17 (j * 17) j samples → 17 ≤ j
        → samples ≡ in_rows (tile l w h origin centre) 289
    tile_is {samples₀} {samples} {j} e r g =
        rows_end r g ∙ ap (λ (m : List Float). joined (row_of l w columns rows) 0 17 ++ m) (drop_of_length-le samples₀ {i = j * 17} (omega arith)) ∙ append-nil (joined (row_of l w columns rows) 0 17)
        ∙ square (λ y x. f32_of (picked l (get_or rows y 0 * w) columns x))
        ∙ from_same (λ k. f32_of (picked l (get_or rows (k / 17) 0 * w) columns (k % 17))) (λ k. tile l w h origin centre (k / 17) (k % 17)) 0 289 (λ k a. picked_is (k / 17) (k % 17) (omega arith) (omega arith))
