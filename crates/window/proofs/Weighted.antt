-- Sums of weighted squares: not negative, settled by the squares, scaled by a square.
use mathlib.Core.Path.{◌≡◌, refl, sym, ap, ◌∙◌}
use mathlib.Core.Bool.{Bool, true, ◌&&◌}
use mathlib.Core.List.{List, [], ◌∷◌}
use Prim.Native.Nat.{ℕ, ◌+◌, ◌*◌, ◌<◌}
use lib.Dec.{T, ltb, ltb→lt}
use lib.IntN.{ℤ, pos, negsuc, nat_abs, ◌+ℤ◌, ◌*ℤ◌, *ℤ-zero}
use Rattle.laws.proofs.Ring.{v, ◌⊕◌, ◌⊗◌, ring}
use lib.Ieee.Fits.{and_l, and_r}
use Rattle.window.specs.Window.{Term, sq, weighted, gate_terms}
use Rattle.window.specs.Squares.{gated}

-- ---- a fact of each (i, j) that a list of terms names

abbrev pub EachTerm : (ℕ → ℕ → Type 0) → List Term → Type 0
EachTerm Q [] = Unit {0}
EachTerm Q (t ∷ ts) = Q t.i t.j × EachTerm Q ts

abbrev pub every : (ℕ → ℕ → Bool) → List Term → Bool
every f [] = true
every f (t ∷ ts) = f t.i t.j && every f ts

-- where a test is true of each, so is what follows from it
pub each_term : (Q : ℕ → ℕ → Type 0) (f : ℕ → ℕ → Bool) → ((i j : ℕ) → T (f i j) → Q i j) → (ts : List Term) → T (every f ts) → EachTerm Q ts
each_term Q f h [] t = tt
each_term Q f h (s ∷ ts) t =
    (h s.i s.j (and_l (f s.i s.j) (every f ts) t), each_term Q f h ts (and_r (f s.i s.j) (every f ts) t))

-- those of the gate
abbrev gated4 : ℕ → ℕ → Bool
gated4 i j = ltb i 4 && (ltb j 4 && gated i j)

pub each_gated : (Q : ℕ → ℕ → Type 0) → ((i j : ℕ) → i < 4 → j < 4 → T (gated i j) → Q i j) → EachTerm Q gate_terms
each_gated Q h =
    each_term Q gated4
    (λ i j t.
    let r = and_r (ltb i 4) (ltb j 4 && gated i j) t in
    h i j (ltb→lt i 4 (and_l (ltb i 4) (ltb j 4 && gated i j) t)) (ltb→lt j 4 (and_l (ltb j 4) (gated i j) r))
    (and_r (ltb j 4) (gated i j) r))
    gate_terms tt

-- ---- the sums

pub weighted_same : (c d : ℕ → ℕ → ℤ) (ts : List Term) → EachTerm (λ i j. sq (c i j) ≡ sq (d i j)) ts → weighted ts c ≡ weighted ts d
weighted_same c d [] e = refl
weighted_same c d (t ∷ ts) e =
    ap (λ (z : ℤ). pos t.weight *ℤ z +ℤ weighted ts c) e.0
    ∙ ap (λ (z : ℤ). pos t.weight *ℤ sq (d t.i t.j) +ℤ z) (weighted_same c d ts e.1)

pub weighted_zero : (c : ℕ → ℕ → ℤ) (ts : List Term) → EachTerm (λ i j. c i j ≡ pos 0) ts → weighted ts c ≡ pos 0
weighted_zero c [] e = refl
weighted_zero c (t ∷ ts) e =
    ap (λ (z : ℤ). pos t.weight *ℤ sq z +ℤ weighted ts c) e.0
    ∙ ap (λ (z : ℤ). z +ℤ weighted ts c) (*ℤ-zero (pos t.weight)) ∙ ap (λ (z : ℤ). pos 0 +ℤ z) (weighted_zero c ts e.1)

pub weighted_scaled : (d : ℤ) (c : ℕ → ℕ → ℤ) (ts : List Term) → weighted ts (λ i j. d *ℤ c i j) ≡ sq d *ℤ weighted ts c
weighted_scaled d c [] = sym (*ℤ-zero (sq d))
weighted_scaled d c (t ∷ ts) =
    ap (λ (z : ℤ). pos t.weight *ℤ sq (d *ℤ c t.i t.j) +ℤ z) (weighted_scaled d c ts)
    ∙ ring (d ∷ pos t.weight ∷ c t.i t.j ∷ weighted ts c ∷ [])
    (v 1 ⊗ (v 0 ⊗ v 2 ⊗ (v 0 ⊗ v 2)) ⊕ v 0 ⊗ v 0 ⊗ v 3) (v 0 ⊗ v 0 ⊗ (v 1 ⊗ (v 2 ⊗ v 2) ⊕ v 3)) tt

-- ---- they are not negative

pub sq_is : (z : ℤ) → sq z ≡ pos (nat_abs z * nat_abs z)
sq_is (pos n) = refl
sq_is (negsuc n) = refl

abbrev pub weightedℕ : List Term → (ℕ → ℕ → ℤ) → ℕ
weightedℕ [] c = 0
weightedℕ (t ∷ ts) c = t.weight * (nat_abs (c t.i t.j) * nat_abs (c t.i t.j)) + weightedℕ ts c

pub weighted_is : (c : ℕ → ℕ → ℤ) (ts : List Term) → weighted ts c ≡ pos (weightedℕ ts c)
weighted_is c [] = refl
weighted_is c (t ∷ ts) =
    ap (λ (z : ℤ). pos t.weight *ℤ z +ℤ weighted ts c) (sq_is (c t.i t.j))
    ∙ ap (λ (z : ℤ). pos t.weight *ℤ pos (nat_abs (c t.i t.j) * nat_abs (c t.i t.j)) +ℤ z) (weighted_is c ts)
