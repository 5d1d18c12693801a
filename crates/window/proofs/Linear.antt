-- A component of a sum is the sum of the components, and a surface has none of the gate's.
use mathlib.Core.Path.{◌≡◌}
use mathlib.Core.List.{List, [], ◌∷◌, ◌++◌}
use Prim.Native.Nat.{ℕ, ◌+◌, ◌*◌, ◌<◌}
use lib.Dec.{T}
use lib.IntN.{ℤ, pos, ◌+ℤ◌, ◌-ℤ◌, ◌*ℤ◌}
use Rattle.laws.proofs.Ring.{Ex, v, k, ◌⊕◌, ◌⊖◌, ◌⊗◌, ring, same}
use Rattle.window.specs.Window.{Window, P, component}
use Rattle.window.specs.Surface.{Surface, value}
use Rattle.window.specs.Squares.{gated}
use Rattle.window.proofs.Places.{sixteen_if}
use Rattle.window.proofs.Expressions.{numbers, at, sum4_e, component_e, sq_e}

-- ---- over two windows, a number and the weights as variables: 0 to 15, 16 to 31, 32, 33 to 36 and 37 to 40

abbrev all : Window → Window → ℤ → ℕ → ℕ → List ℤ
all p q d i j = numbers p ++ (numbers q ++ (d ∷ P i 0 ∷ P i 1 ∷ P i 2 ∷ P i 3 ∷ P j 0 ∷ P j 1 ∷ P j 2 ∷ P j 3 ∷ []))

abbrev other : ℕ → ℕ → Ex
other x y = v (16 + (4 * y + x))

abbrev any_e : (ℕ → ℕ → Ex) → Ex
any_e p = sum4_e (λ y. sum4_e (λ x. p x y ⊗ v (33 + x) ⊗ v (37 + y)))

pub component_sum : (p q : Window) (i j : ℕ) → component (λ x y. p x y +ℤ q x y) i j ≡ component p i j +ℤ component q i j
component_sum p q i j = ring (all p q (pos 0) i j) (any_e (λ x y. at x y ⊕ other x y)) (any_e at ⊕ any_e other) tt

pub component_less : (p q : Window) (d : ℤ) (i j : ℕ)
    → component (λ x y. d *ℤ p x y -ℤ q x y) i j ≡ d *ℤ component p i j -ℤ component q i j
component_less p q d i j = ring (all p q d i j) (any_e (λ x y. v 32 ⊗ at x y ⊖ other x y)) (v 32 ⊗ any_e at ⊖ any_e other) tt

-- ---- surfaces, the coefficients as variables 0 to 6

abbrev pub coefficients : Surface → List ℤ
coefficients s = s.a ∷ s.b ∷ s.c ∷ s.d ∷ s.e ∷ s.f ∷ s.m ∷ []

abbrev pub value_e : (ℕ → Ex) → ℕ → ℕ → Ex
value_e c x y =
    c 0 ⊕ c 1 ⊗ k (pos x) ⊕ c 2 ⊗ k (pos y) ⊕ c 3 ⊗ (k (pos x) ⊗ k (pos y)) ⊕ c 4 ⊗ sq_e (k (pos x)) ⊕ c 5 ⊗ sq_e (k (pos y))
    ⊕ c 6 ⊗ (k (P 3 x) ⊗ k (P 3 y))

pub surface_ungated : (s : Surface) (i j : ℕ) → i < 4 → j < 4 → T (gated i j) → component (value s) i j ≡ pos 0
surface_ungated s i j p q g =
    ring (coefficients s) (component_e (value_e v) i j) (k (pos 0))
    (sixteen_if gated (λ i j. same (component_e (value_e v) i j) (k (pos 0))) tt i j p q g)
