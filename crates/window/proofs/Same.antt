-- What is measured of a window depends on its sixteen numbers alone.
use mathlib.Core.Path.{◌≡◌, ap}
use mathlib.Core.List.{List, [], ◌∷◌}
use Prim.Native.Nat.{ℕ, ◌<◌}
use lib.Dec.{lit<}
use lib.IntN.{ℤ}
use Rattle.laws.proofs.Machine.{four}
use Rattle.window.specs.Window.{Window, gate, stats_of, of_rows}

abbrev row : Window → ℕ → List ℤ
row p y = p 0 y ∷ p 1 y ∷ p 2 y ∷ p 3 y ∷ []

abbrev rows : Window → List (List ℤ)
rows p = row p 0 ∷ row p 1 ∷ row p 2 ∷ row p 3 ∷ []

rows_same : (p q : Window) → ((x y : ℕ) → x < 4 → y < 4 → p x y ≡ q x y) → rows p ≡ rows q
rows_same p q e = four (each 0 (lit< tt)) (each 1 (lit< tt)) (each 2 (lit< tt)) (each 3 (lit< tt))
  where
    each : (y : ℕ) → y < 4 → row p y ≡ row q y
    each y h = four (e 0 y (lit< tt) h) (e 1 y (lit< tt) h) (e 2 y (lit< tt) h) (e 3 y (lit< tt) h)

pub gate_alike : (p q : Window) → ((x y : ℕ) → x < 4 → y < 4 → p x y ≡ q x y) → gate p ≡ gate q
unfolding gate
gate_alike p q e = ap (λ (m : List (List ℤ)). gate (of_rows m)) (rows_same p q e)

pub stats_alike : (p q : Window) → ((x y : ℕ) → x < 4 → y < 4 → p x y ≡ q x y) → stats_of p ≡ stats_of q
unfolding stats_of gate
stats_alike p q e = ap (λ (m : List (List ℤ)). stats_of (of_rows m)) (rows_same p q e)
