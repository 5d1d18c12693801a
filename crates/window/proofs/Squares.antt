-- 400 times the summed squared pixels are the weighted squares of all sixteen components, of which the gate takes nine.
use mathlib.Core.Path.{◌≡◌, refl, ◌∙◌}
use mathlib.Core.Bool.{cond, ◌&&◌}
use mathlib.Core.List.{List, [], ◌∷◌}
use Prim.Native.Nat.{ℕ, ◌+◌, ◌*◌, ◌<◌}
use lib.Dec.{eqb, eqb→eq}
use lib.IntN.{pos, ◌+ℤ◌, ◌*ℤ◌}
use Rattle.laws.proofs.Ring.{Ex, k, ◌⊕◌, ◌⊗◌, ring}
use Rattle.window.specs.Window.{Window, P, sum4, sq, component, Term, term, weighted, gate_terms, gate}
use Rattle.window.specs.Squares.{norm2, scale, gated, squares, weighted_squares}
use Rattle.window.proofs.Places.{below4, sixteen}
use Rattle.window.proofs.Expressions.{numbers, at, sum4_e, component_e, sq_e, weighted_e}

pub squared_length : (i : ℕ) → i < 4 → pos (norm2 i) ≡ sum4 (λ x. sq (P i x))
squared_length = below4 (λ i. pos (norm2 i) ≡ sum4 (λ x. sq (P i x))) refl refl refl refl

-- the division leaves nothing over
pub scale_exact : (i j : ℕ) → i < 4 → j < 4 → scale i j * (norm2 i * norm2 j) ≡ 400
scale_exact i j p q =
    eqb→eq (scale i j * (norm2 i * norm2 j)) 400 (sixteen (λ i j. eqb (scale i j * (norm2 i * norm2 j)) 400) tt i j p q)

-- the weight of component (i, j) in a list of terms
abbrev pub weight_of : List Term → ℕ → ℕ → ℕ
weight_of [] i j = 0
weight_of (t ∷ ts) i j = cond (eqb t.i i && eqb t.j j) t.weight 0 + weight_of ts i j

-- the gate's weights are those of the squared lengths, at total degree 3 or more but for (3, 3), and 0 elsewhere
pub gate_weights : (i j : ℕ) → i < 4 → j < 4 → weight_of gate_terms i j ≡ cond (gated i j) (scale i j) 0
gate_weights i j p q =
    eqb→eq (weight_of gate_terms i j) (cond (gated i j) (scale i j) 0)
    (sixteen (λ i j. eqb (weight_of gate_terms i j) (cond (gated i j) (scale i j) 0)) tt i j p q)

abbrev weighted_squares_e : (ℕ → ℕ → Ex) → Ex
weighted_squares_e c = sum4_e (λ i. sum4_e (λ j. k (pos (scale i j)) ⊗ sq_e (c i j)))

pub squared_components : (p : Window) → pos 400 *ℤ squares p ≡ weighted_squares p
squared_components p =
    ring (numbers p) (k (pos 400) ⊗ sum4_e (λ y. sum4_e (λ x. sq_e (at x y)))) (weighted_squares_e (component_e at)) tt

-- what the gate leaves: the operator's own component, and those that surfaces have
abbrev pub free_terms : List Term
free_terms = term 1 3 3 ∷ term 25 0 0 ∷ term 5 1 0 ∷ term 5 0 1 ∷ term 1 1 1 ∷ term 25 2 0 ∷ term 25 0 2 ∷ []

pub gate_and_free : (p : Window) → pos 400 *ℤ squares p ≡ gate p +ℤ weighted free_terms (component p)
unfolding gate
gate_and_free p =
    squared_components p ∙ ring (numbers (component p)) (weighted_squares_e at) (weighted_e gate_terms at ⊕ weighted_e free_terms at) tt
