-- A window of four rows of four pixels, and what is measured of it: document 01, "Window".
use Rattle.std.specs.Prelude.{◌≡◌, List, [], ◌∷◌, ℕ, ◌+◌, ◌*◌, ◌≤◌, ◌<◌, get_or, ℤ, pos, neg_ℤ, ◌+ℤ◌, ◌*ℤ◌}
use Rattle.window.specs.declared.WindowStats.{WindowStats}

-- the pixel at each (x, y), x and y from 0 to 3
abbrev pub Window : Type 0
Window = ℕ → ℕ → ℤ

-- a pixel is 0 to 255
pub record Pixel (z : ℤ) : Type 0 where
  pub byte : ℕ
  pub is : z ≡ pos byte
  pub most : byte ≤ 255

-- a window of pixels
abbrev pub Pixels : Window → Type 0
Pixels p = (x y : ℕ) → x < 4 → y < 4 → Pixel (p x y)

-- ---- the figures

abbrev pub minus : ℕ → ℤ
minus n = neg_ℤ (pos n)

-- P0, P1, P2 and P3
abbrev pub weights : List (List ℤ)
weights =
    (pos 1 ∷ pos 1 ∷ pos 1 ∷ pos 1 ∷ [])
    ∷ (minus 3 ∷ minus 1 ∷ pos 1 ∷ pos 3 ∷ [])
    ∷ (pos 1 ∷ minus 1 ∷ minus 1 ∷ pos 1 ∷ [])
    ∷ (pos 1 ∷ minus 3 ∷ pos 3 ∷ minus 1 ∷ [])
    ∷ []

-- Pi at x
abbrev pub P : ℕ → ℕ → ℤ
P i x = get_or (get_or weights i []) x (pos 0)

abbrev pub sum4 : (ℕ → ℤ) → ℤ
sum4 f = f 0 +ℤ f 1 +ℤ f 2 +ℤ f 3

-- component (i, j): the sum of pixel × Pi at x × Pj at y
abbrev pub component : Window → ℕ → ℕ → ℤ
component p i j = sum4 (λ y. sum4 (λ x. p x y *ℤ P i x *ℤ P j y))

abbrev pub sq : ℤ → ℤ
sq z = z *ℤ z

-- a weight, and the (i, j) that it is for
pub record Term : Type 0 where
  pub weight : ℕ
  pub i : ℕ
  pub j : ℕ

-- the sum of weight × c (i, j)²
abbrev pub weighted : List Term → (ℕ → ℕ → ℤ) → ℤ
weighted [] c = pos 0
weighted (t ∷ ts) c = pos t.weight *ℤ sq (c t.i t.j) +ℤ weighted ts c

abbrev pub term : ℕ → ℕ → ℕ → Term
term w i j = record { weight = w; i = i; j = j }

-- the gate's: with 5, with 25 and with 1
abbrev pub gate_terms : List Term
gate_terms =
    term 5 1 2
    ∷ term 5 2 1
    ∷ term 5 2 3
    ∷ term 5 3 2
    ∷ term 5 3 0
    ∷ term 5 0 3
    ∷ term 25 2 2
    ∷ term 1 1 3
    ∷ term 1 3 1
    ∷ []

unfoldable pub gate : Window → ℤ
gate p = weighted gate_terms (component p)

-- what the gate never exceeds
abbrev pub gate_most : ℕ
gate_most = 104040000

-- pixel sum, gate and operator output
unfoldable pub stats_of : Window → WindowStats
stats_of p = record { sum = component p 0 0; gate = gate p; op = component p 3 3 }

-- ---- where the pixels stand

-- held in four rows of four
abbrev pub of_rows : List (List ℤ) → Window
of_rows m x y = get_or (get_or m y []) x (pos 0)

-- standing in an image whose rows are w apart, from the place `at` on
abbrev pub pixels_at : List ℕ → ℕ → ℕ → Window
pixels_at img w at x y = pos (get_or img (at + y * w + x) 0)
