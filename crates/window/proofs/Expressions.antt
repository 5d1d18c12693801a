-- A window's components and weighted squares as polynomials in its sixteen numbers.
use mathlib.Core.List.{List, [], ◌∷◌}
use Prim.Native.Nat.{ℕ, ◌+◌, ◌*◌, ◌≤◌, ◌<◌}
use lib.Dec.{T, ltb, lit<}
use lib.IntN.{ℤ, pos, nat_abs}
use Rattle.laws.proofs.Ring.{Ex, v, k, ◌⊕◌, ◌⊗◌}
use Rattle.laws.proofs.Machine.{Within}
use Rattle.window.specs.Window.{Window, P, Term}
use Rattle.window.proofs.Places.{◌and◌}

-- the numbers, and the variable that stands for the one at (x, y)
abbrev pub numbers : Window → List ℤ
numbers p =
    p 0 0 ∷ p 1 0 ∷ p 2 0 ∷ p 3 0
    ∷ p 0 1 ∷ p 1 1 ∷ p 2 1 ∷ p 3 1
    ∷ p 0 2 ∷ p 1 2 ∷ p 2 2 ∷ p 3 2
    ∷ p 0 3 ∷ p 1 3 ∷ p 2 3 ∷ p 3 3
    ∷ []

abbrev pub at : ℕ → ℕ → Ex
at x y = v (4 * y + x)

abbrev pub sum4_e : (ℕ → Ex) → Ex
sum4_e f = f 0 ⊕ f 1 ⊕ f 2 ⊕ f 3

abbrev pub component_e : (ℕ → ℕ → Ex) → ℕ → ℕ → Ex
component_e p i j = sum4_e (λ y. sum4_e (λ x. p x y ⊗ k (P i x) ⊗ k (P j y)))

abbrev pub sq_e : Ex → Ex
sq_e e = e ⊗ e

abbrev pub weighted_e : List Term → (ℕ → ℕ → Ex) → Ex
weighted_e [] c = k (pos 0)
weighted_e (t ∷ ts) c = k (pos t.weight) ⊗ sq_e (c t.i t.j) ⊕ weighted_e ts c

-- ---- numbers of bounded magnitude

abbrev pub bounds : ℕ → List ℕ
bounds n = n ∷ n ∷ n ∷ n ∷ n ∷ n ∷ n ∷ n ∷ n ∷ n ∷ n ∷ n ∷ n ∷ n ∷ n ∷ n ∷ []

pub within : (p : Window) (n : ℕ) → ((x y : ℕ) → x < 4 → y < 4 → nat_abs (p x y) ≤ n) → Within (numbers p) (bounds n)
within p n b =
    at' 0 0 tt tt and at' 1 0 tt tt and at' 2 0 tt tt and at' 3 0 tt tt and at' 0 1 tt tt and at' 1 1 tt tt and at' 2 1 tt tt and at' 3 1 tt tt
    and at' 0 2 tt tt and at' 1 2 tt tt and at' 2 2 tt tt and at' 3 2 tt tt and at' 0 3 tt tt and at' 1 3 tt tt and at' 2 3 tt tt and at' 3 3 tt tt
    and tt
  where
    at' : (x y : ℕ) → T (ltb x 4) → T (ltb y 4) → nat_abs (p x y) ≤ n
    at' x y s t = b x y (lit< s) (lit< t)
