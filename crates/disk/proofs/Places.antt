-- The disk's 81 places: the table is the rule's, each place has its neighbours in the square, and squares that agree on rows and columns 0 to 12 have the same values and gradients there.
use mathlib.Core.Path.{◌≡◌, refl, ap, ◌∙◌}
use mathlib.Core.Bool.{Bool, ◌&&◌}
use mathlib.Core.List.{List, [], ◌∷◌}
use Prim.Native.Nat.{ℕ, ◌+◌, ◌*◌, ◌-◌, ◌/◌, ◌%◌, ◌≤◌, ◌<◌}
use native.Mathlib.Omega.{arith}
use lib.Dec.{T, leb, leb→le}
use lib.Ieee.Fits.{and_l, and_r}
use lib.ListN.{length, get_or}
use lib.Ieee.{Float, nan, binary32, sub}
use Rattle.disk.specs.Rows.{in_rows, read}
use Rattle.disk.specs.Smoothing.{down, across, smoothed}
use Rattle.disk.specs.Disk.{disk}
use Rattle.disk.specs.Gradients.{values, squares, squared_at, gradients}
use Rattle.disk.proofs.Table.{every, each}
use Rattle.laws.proofs.Fill.{get_d_from}
use Rattle.levels.proofs.Folds.{map_same}
use Rattle.disk.proofs.Rows.{right, left, below, above, five}

pub disk_long : length disk ≡ 81
unfolding disk
disk_long = refl

-- rows 1 to 11 and columns 1 to 11
pub record Inner (k : ℕ) : Type 0 where
  pub row_from : 1 ≤ k / 17
  pub row_upto : k / 17 ≤ 11
  pub column_from : 1 ≤ k % 17
  pub column_upto : k % 17 ≤ 11

inner : ℕ → Bool
inner k = (leb 1 (k / 17) && leb (k / 17) 11) && (leb 1 (k % 17) && leb (k % 17) 11)

all_inner : T (every inner disk)
unfolding disk inner
all_inner = tt

pub place_inner : (m : ℕ) → m < 81 → Inner (get_or disk m 0)
unfolding inner
place_inner m h =
    let k = get_or disk m 0 in
    let t = each inner disk all_inner m (omega (arith, disk_long)) in
    let a = and_l (leb 1 (k / 17) && leb (k / 17) 11) (leb 1 (k % 17) && leb (k % 17) 11) t in
    let b = and_r (leb 1 (k / 17) && leb (k / 17) 11) (leb 1 (k % 17) && leb (k % 17) 11) t in
    record {
      row_from = leb→le 1 (k / 17) (and_l (leb 1 (k / 17)) (leb (k / 17) 11) a);
      row_upto = leb→le (k / 17) 11 (and_r (leb 1 (k / 17)) (leb (k / 17) 11) a);
      column_from = leb→le 1 (k % 17) (and_l (leb 1 (k % 17)) (leb (k % 17) 11) b);
      column_upto = leb→le (k % 17) 11 (and_r (leb 1 (k % 17)) (leb (k % 17) 11) b);
    }

-- the code's table is the rule's list of places
abbrev table : List ℕ
table = 23 ∷ 37 ∷ 38 ∷ 39 ∷ 40 ∷ 41 ∷ 42 ∷ 43 ∷ 53 ∷ 54 ∷ 55 ∷ 56 ∷ 57 ∷ 58 ∷ 59 ∷ 60 ∷ 61 ∷ 70 ∷ 71 ∷ 72 ∷ 73 ∷ 74 ∷ 75 ∷ 76 ∷ 77 ∷ 78 ∷ 87 ∷ 88 ∷ 89 ∷ 90 ∷ 91 ∷ 92 ∷ 93 ∷ 94 ∷ 95 ∷ 103 ∷ 104 ∷ 105 ∷ 106 ∷ 107 ∷ 108 ∷ 109 ∷ 110 ∷ 111 ∷ 112 ∷ 113 ∷ 121 ∷ 122 ∷ 123 ∷ 124 ∷ 125 ∷ 126 ∷ 127 ∷ 128 ∷ 129 ∷ 138 ∷ 139 ∷ 140 ∷ 141 ∷ 142 ∷ 143 ∷ 144 ∷ 145 ∷ 146 ∷ 155 ∷ 156 ∷ 157 ∷ 158 ∷ 159 ∷ 160 ∷ 161 ∷ 162 ∷ 163 ∷ 173 ∷ 174 ∷ 175 ∷ 176 ∷ 177 ∷ 178 ∷ 179 ∷ 193 ∷ []

pub table_is : table ≡ disk
unfolding disk
table_is = refl

-- what is read of the table at m is the m-th place, and has its neighbours in the square
pub record Spot (m r : ℕ) : Type 0 where
  pub is : r ≡ get_or disk m 0
  pub from_second : 17 ≤ r
  pub upto_last : r + 17 < 217

pub spot : (m r : ℕ) → m < 81 → r ≡ get_or table m 0 → Spot m r
spot m r h e = record { is = same; from_second = late (place_inner m h).row_from same; upto_last = early (place_inner m h).row_upto (place_inner m h).column_upto same }
  where
    same : r ≡ get_or disk m 0
    same = e ∙ ap (λ (l : List ℕ). get_or l m 0) table_is

    late : 1 ≤ get_or disk m 0 / 17 → r ≡ get_or disk m 0 → 17 ≤ r
    late h e = omega arith

    early : get_or disk m 0 / 17 ≤ 11 → get_or disk m 0 % 17 ≤ 11 → r ≡ get_or disk m 0 → r + 17 < 217
    early h g e = omega arith

-- the squared gradient at the m-th place k, from the four places around it
pub squared_at_lem : (l : List Float) (k m : ℕ) → m < 81 → k ≡ get_or disk m 0
    → squares (sub binary32 (get_or l (k + 1) nan) (get_or l (k - 1) nan)) (sub binary32 (get_or l (k + 17) nan) (get_or l (k - 17) nan)) ≡ squared_at (read l) (get_or disk m 0 / 17) (get_or disk m 0 % 17)
squared_at_lem l k m h e =
    let p = place_inner m h in
    ap (λ (i : ℕ). squares (sub binary32 (get_or l (i + 1) nan) (get_or l (i - 1) nan)) (sub binary32 (get_or l (i + 17) nan) (get_or l (i - 17) nan))) e
    ∙ go (get_or disk m 0) p.column_from p.row_from
  where
    go : (k : ℕ) → 1 ≤ k % 17 → 1 ≤ k / 17
        → squares (sub binary32 (get_or l (k + 1) nan) (get_or l (k - 1) nan)) (sub binary32 (get_or l (k + 17) nan) (get_or l (k - 17) nan)) ≡ squared_at (read l) (k / 17) (k % 17)
    go k p q = λ i. squares (sub binary32 (right l k 1 i) (left l k p i)) (sub binary32 (below l k 1 i) (above l k q i))

-- ---- squares that agree on 13 rows of 13

abbrev pub Agree : (ℕ → ℕ → Float) → (ℕ → ℕ → Float) → Type 0
Agree s t = (y x : ℕ) → y ≤ 12 → x ≤ 12 → s y x ≡ t y x

squared_same : (s t : ℕ → ℕ → Float) → Agree s t → (y x : ℕ) → 1 ≤ y → y ≤ 11 → 1 ≤ x → x ≤ 11 → squared_at s y x ≡ squared_at t y x
squared_same s t h y x a b c d =
    rw (h y (x + 1) (omega arith) (omega arith), h y (x - 1) (omega arith) (omega arith), h (y + 1) x (omega arith) (omega arith), h (y - 1) x (omega arith) (omega arith)) refl

pub values_same : (s t : ℕ → ℕ → Float) → Agree s t → values s ≡ values t
values_same s t h = map_same (λ k. s (k / 17) (k % 17)) (λ k. t (k / 17) (k % 17)) 0 disk go
  where
    go : (m : ℕ) → m < length disk → s (get_or disk m 0 / 17) (get_or disk m 0 % 17) ≡ t (get_or disk m 0 / 17) (get_or disk m 0 % 17)
    go m l = let p = place_inner m (omega (arith, disk_long)) in h (get_or disk m 0 / 17) (get_or disk m 0 % 17) (omega arith) (omega arith)

pub gradients_same : (s t : ℕ → ℕ → Float) → Agree s t → gradients s ≡ gradients t
gradients_same s t h = map_same (λ k. squared_at s (k / 17) (k % 17)) (λ k. squared_at t (k / 17) (k % 17)) 0 disk go
  where
    go : (m : ℕ) → m < length disk → squared_at s (get_or disk m 0 / 17) (get_or disk m 0 % 17) ≡ squared_at t (get_or disk m 0 / 17) (get_or disk m 0 % 17)
    go m l = let p = place_inner m (omega (arith, disk_long)) in squared_same s t h (get_or disk m 0 / 17) (get_or disk m 0 % 17) p.row_from p.row_upto p.column_from p.column_upto

-- ---- rows of 17, read by row and column

pub read_rows : (t : ℕ → ℕ → Float) (n y x : ℕ) → x < 17 → y * 17 + x < n → read (in_rows t n) y x ≡ t y x
read_rows t n y x h g =
    get_d_from (λ k. t (k / 17) (k % 17)) nan n 0 (y * 17 + x) g ∙ ap (λ (i : ℕ). t i ((0 + (y * 17 + x)) % 17)) (row y x h) ∙ ap (λ (i : ℕ). t y i) (column y x h)
  where
    row : (y x : ℕ) → x < 17 → (0 + (y * 17 + x)) / 17 ≡ y
    row y x h = omega arith

    column : (y x : ℕ) → x < 17 → (0 + (y * 17 + x)) % 17 ≡ x
    column y x h = omega arith

-- what `down` and `across` leave in memory is the smoothed square
pub smooth_read : (t : ℕ → ℕ → Float) (rows smooth : List Float) → rows ≡ in_rows (down t) 221 → smooth ≡ in_rows (across (read rows)) 217 → Agree (read smooth) (smoothed t)
smooth_read t rows smooth p q y x a b =
    ap (λ (l : List Float). read l y x) q ∙ read_rows (across (read rows)) 217 y x (omega arith) (omega arith)
    ∙ five (at x (omega arith)) (at (x + 1) (omega arith)) (at (x + 2) (omega arith)) (at (x + 3) (omega arith)) (at (x + 4) (omega arith))
  where
    at : (c : ℕ) → c ≤ 16 → read rows y c ≡ down t y c
    at c h = ap (λ (l : List Float). read l y c) p ∙ read_rows (down t) 221 y c (omega arith) (omega arith)

-- squares that agree on 17 rows of 17 are smoothed alike
pub smooth_same : (s t : ℕ → ℕ → Float) → ((y x : ℕ) → y ≤ 16 → x ≤ 16 → s y x ≡ t y x) → Agree (smoothed s) (smoothed t)
smooth_same s t h y x a b =
    five (at x (omega arith)) (at (x + 1) (omega arith)) (at (x + 2) (omega arith)) (at (x + 3) (omega arith)) (at (x + 4) (omega arith))
  where
    at : (c : ℕ) → c ≤ 16 → down s y c ≡ down t y c
    at c g = five (h y c (omega arith) g) (h (y + 1) c (omega arith) g) (h (y + 2) c (omega arith) g) (h (y + 3) c (omega arith) g) (h (y + 4) c (omega arith) g)
