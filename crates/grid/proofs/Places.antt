-- The places of a pass: how many there are, and that they are those of the grid's rule. Assumes nothing.
use mathlib.Core.Path.{◌≡◌, refl, sym, ap, ◌∙◌, subst}
use mathlib.Core.List.Memᴰ
use mathlib.Core.List.{List, Memᴰ}
use mathlib.Core.Logic.{◌↔◌, ⊎_elim}
use Prim.Native.Nat.{ℕ, zero, suc, ◌+◌, ◌-◌, ◌*◌, ◌%◌, ◌≤◌, ◌<◌}
use native.Mathlib.Nat.{eq-or-lt_of_le, mul-le-mul_right, div-lt_iff_lt-mul}
use native.Mathlib.Omega.{arith}
use lib.ListN.{length, length-append}
use Rattle.laws.specs.Lists.{from, joined}
use Rattle.laws.proofs.Fill.{length_from, joined_more}
use Rattle.grid.specs.Step.{step_of}
use Rattle.grid.specs.Grid.{Place, OnGrid, Inside, first_x, row_count, row_of, rows_of, places_of, total_of}
use Rattle.grid.proofs.Steps.{step_is}
use Rattle.grid.proofs.Counts.{count_is, count_most}

-- ---- how many

row_long : (w s j : ℕ) → length (row_of w s j) ≡ row_count w s j
row_long w s j = length_from _ _ (row_count w s j)

-- one row more is its windows more
pub total_more : (w s m j : ℕ) → j < m → length (joined (row_of w s) j (m - j)) ≡ row_count w s j + length (joined (row_of w s) (j + 1) (m - (j + 1)))
total_more w s m j h =
    ap length (joined_more (row_of w s) j m h)
    ∙ length-append (row_of w s j) (joined (row_of w s) (j + 1) (m - (j + 1)))
    ∙ ap (λ (n : ℕ). n + length (joined (row_of w s) (j + 1) (m - (j + 1)))) (row_long w s j)

-- T, by a step and a number of rows
pub total_by_lem : (w h windows s m : ℕ) → s ≡ step_of (w * h) windows → m ≡ rows_of h s → length (joined (row_of w s) 0 m) ≡ total_of w h windows
unfolding places_of
total_by_lem w h windows s m e f =
    ap (λ (n : ℕ). length (joined (row_of w s) 0 n)) f ∙ ap (λ (n : ℕ). length (joined (row_of w n) 0 (rows_of h n))) e

-- T is the rows' windows added up
abbrev pub sum_from : (ℕ → ℕ) → ℕ → ℕ → ℕ
sum_from f k zero = 0
sum_from f k (suc n) = f k + sum_from f (suc k) n

joined_sum : (w s k n : ℕ) → length (joined (row_of w s) k n) ≡ sum_from (row_count w s) k n
joined_sum w s k zero = refl
joined_sum w s k (suc n) =
    length-append (row_of w s k) (joined (row_of w s) (suc k) n)
    ∙ ap (λ (m : ℕ). m + length (joined (row_of w s) (suc k) n)) (row_long w s k)
    ∙ ap (λ (m : ℕ). row_count w s k + m) (joined_sum w s (suc k) n)

pub total_sum : (w h windows : ℕ) → total_of w h windows ≡ sum_from (row_count w (step_of (w * h) windows)) 0 (rows_of h (step_of (w * h) windows))
unfolding places_of
total_sum w h windows = joined_sum w (step_of (w * h) windows) 0 (rows_of h (step_of (w * h) windows))

-- no row has more windows than pixels
joined_most : (w s k n : ℕ) → 1 ≤ s → length (joined (row_of w s) k n) ≤ n * w
joined_most w s k zero h = omega arith
joined_most w s k (suc n) h =
    omega (
      arith,
      joined_most w s (suc k) n h,
      length-append (row_of w s k) (joined (row_of w s) (suc k) n),
      row_long w s k,
      count_most (first_x k s) s (w - 3) h,
    )

pub total_most : (w h windows : ℕ) → 1 ≤ windows → total_of w h windows ≤ w * h
unfolding places_of
total_most w h windows g =
    let s = step_of (w * h) windows in
    let o : 1 ≤ s = (step_is (w * h) windows g).some in
    let rows : rows_of h s ≤ h = omega (arith, count_most 0 s (h - 3) o) in
    omega (arith, joined_most w s 0 (rows_of h s) o, mul-le-mul_right w rows)

-- ---- inside

-- each row begins within the first step
pub first_within : (j s : ℕ) → 1 ≤ s → first_x j s < s
first_within j s h =
    (div-lt_iff_lt-mul {k = 1000000} {x = (j * 618034) % 1000000 * s} {y = s} (omega arith)).1
    (omega (arith, mul-le-mul_right s (below (j * 618034))))
  where
    below : (n : ℕ) → n % 1000000 + 1 ≤ 1000000
    below n = omega arith

-- so the windows of its row lie inside the image
pub inside_at : (w h s j k : ℕ) → 1 ≤ s → j < rows_of h s → k < row_count w s j → Inside w h (first_x j s + k * s) (j * s)
inside_at w h s j k o p q =
    record {
      across = omega (arith, (count_is (first_x j s) s (w - 3) o k).0 q);
      down = omega (arith, (count_is 0 s (h - 3) o j).0 p);
    }

-- so its pixels are among the w × h
pub inside_pixels : (w h x y : ℕ) → Inside w h x y → y * w + x + 3 * w + 4 ≤ w * h
inside_pixels w h x y i = omega (arith, mul-le-mul_right w i.down)

-- ---- the rule, both ways

-- what is among f k, f (k + 1), .. is one of these
module _ {A : Type 0} where
  pub record Among (p : A) (f : ℕ → A) (k n : ℕ) : Type 0 where
    pub index : ℕ
    pub low : k ≤ index
    pub high : index < k + n
    pub is : p ≡ f index

  pub among : (p : A) (f : ℕ → A) (k n : ℕ) → Memᴰ p (from f k n) → Among p f k n
  among p f k zero m = absurd (Memᴰ.not-nil m)
  among p f k (suc n) m =
      ⊎_elim (λ e. record { index = k; low = omega arith; high = omega arith; is = e })
      (λ r. later (among p f (suc k) n r)) (Memᴰ.cases_cons m)
    where
      later : Among p f (suc k) n → Among p f k (suc n)
      later r = record { index = r.index; low = omega arith; high = omega arith; is = r.is }

  pub record AmongRows (p : A) (rows : ℕ → List A) (k n : ℕ) : Type 0 where
    pub row : ℕ
    pub low : k ≤ row
    pub high : row < k + n
    pub is : Memᴰ p (rows row)

  pub among_rows : (p : A) (rows : ℕ → List A) (k n : ℕ) → Memᴰ p (joined rows k n) → AmongRows p rows k n
  among_rows p rows k zero m = absurd (Memᴰ.not-nil m)
  among_rows p rows k (suc n) m =
      ⊎_elim (λ e. record { row = k; low = omega arith; high = omega arith; is = e })
      (λ r. later (among_rows p rows (suc k) n r)) (Memᴰ.append_cases (rows k) m)
    where
      later : AmongRows p rows (suc k) n → AmongRows p rows k (suc n)
      later r = record { row = r.row; low = omega arith; high = omega arith; is = r.is }

  -- and each of these is among them
  pub listed : (f : ℕ → A) (k n i : ℕ) → k ≤ i → i < k + n → Memᴰ (f i) (from f k n)
  listed f k zero i a b = absurd (never k i a b)
    where
      never : (k i : ℕ) → k ≤ i → i < k + zero → ⊥
      never k i a b = omega arith
  listed f k (suc n) i a b =
      ⊎_elim (λ e. Memᴰ.head (ap f (sym e))) (λ l. Memᴰ.tail (listed f (suc k) n i (omega arith) (omega arith))) (eq-or-lt_of_le a)

  pub row_listed : (p : A) (rows : ℕ → List A) (k n j : ℕ) → k ≤ j → j < k + n → Memᴰ p (rows j) → Memᴰ p (joined rows k n)
  row_listed p rows k zero j a b m = absurd (never k j a b)
    where
      never : (k j : ℕ) → k ≤ j → j < k + zero → ⊥
      never k j a b = omega arith
  row_listed p rows k (suc n) j a b m =
      ⊎_elim (λ e. Memᴰ.append_left (joined rows (suc k) n) (subst (λ (i : ℕ). Memᴰ p (rows i)) (sym e) m))
      (λ l. Memᴰ.append_right (rows k) (row_listed p rows (suc k) n j (omega arith) (omega arith) m)) (eq-or-lt_of_le a)

placed : (p : Place) (x y : ℕ) → p.x ≡ x → p.y ≡ y → p ≡ record { x = x; y = y }
placed p x y e f = ap (λ (u : ℕ). record { x = u; y = p.y }) e ∙ ap (λ (v : ℕ). record { x = x; y = v }) f

module _ (w h windows : ℕ) (g : 1 ≤ windows) (p : Place) where
  abbrev s : ℕ
  s = step_of (w * h) windows

  some : 1 ≤ s
  some = (step_is (w * h) windows g).some

  from_places : Memᴰ p (places_of w h windows) → OnGrid w h s p
  unfolding places_of
  from_places m =
      let r = among_rows p (row_of w s) 0 (rows_of h s) m in
      let a = among p (λ k. record { x = first_x r.row s + k * s; y = r.row * s }) _ (row_count w s r.row) r.is in
      let x : p.x ≡ first_x r.row s + a.index * s = ap (λ (q : Place). q.x) a.is in
      let y : p.y ≡ r.row * s = ap (λ (q : Place). q.y) a.is in
      record {
        j = r.row;
        k = a.index;
        x_is = x;
        y_is = y;
        x_below = omega (arith, x, (count_is (first_x r.row s) s (w - 3) some a.index).0 (omega (arith, a.high)));
        y_below = omega (arith, y, (count_is 0 s (h - 3) some r.row).0 (omega (arith, r.high)));
      }

  to_places : OnGrid w h s p → Memᴰ p (places_of w h windows)
  unfolding places_of
  to_places o =
      let row = (count_is 0 s (h - 3) some o.j).1 (omega (arith, o.y_is, o.y_below)) in
      let one = (count_is (first_x o.j s) s (w - 3) some o.k).1 (omega (arith, o.x_is, o.x_below)) in
      row_listed p (row_of w s) 0 (rows_of h s) o.j (omega arith) (omega (arith, row))
      (Memᴰ.cast (placed p (first_x o.j s + o.k * s) (o.j * s) o.x_is o.y_is)
      (listed (λ k. record { x = first_x o.j s + k * s; y = o.j * s }) _ (row_count w s o.j) o.k (omega arith) (omega (arith, one))))

  -- the places of a pass are those of the grid, and no others
  pub on_grid : Memᴰ p (places_of w h windows) ↔ OnGrid w h s p
  on_grid = (from_places, to_places)

  -- and each one's window lies inside the image
  pub inside : Memᴰ p (places_of w h windows) → Inside w h p.x p.y
  inside m = let o = from_places m in record { across = omega (arith, o.x_below); down = omega (arith, o.y_below) }
