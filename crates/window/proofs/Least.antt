-- The gate is 400 times the least misfit: 400 times what a surface misses at D is D² × gate and the weighted squares of seven
-- components of what is left, all 0 for one surface at D = 400.
use mathlib.Core.Path.{◌≡◌, sym, ap, ◌∙◌, subst}
use mathlib.Core.List.{List, [], ◌∷◌}
use Prim.Native.Nat.{ℕ, zero, suc, ◌+◌, ◌-◌}
use native.Mathlib.Omega.{arith}
use lib.Dec.{T, ltb, le→leb, lit≤}
use lib.IntN.{ℤ, pos, negsuc, ◌+ℤ◌, ◌-ℤ◌, ◌*ℤ◌, +ℤ_idr, +ℤ_invr}
use lib.Signed.{◌≤ℤ◌, le_z}
use Rattle.laws.proofs.Ring.{Ex, v, k, ◌⊕◌, ◌⊖◌, ◌⊗◌, eval, ring, same}
use Rattle.laws.proofs.Machine.{cond_ind}
use Rattle.window.specs.Window.{Window, component, sq, weighted, gate_terms, gate}
use Rattle.window.specs.Surface.{Surface, value, missed, Is400TimesLeastMisfit}
use Rattle.window.proofs.Places.{◌and◌}
use Rattle.window.proofs.Expressions.{component_e}
use Rattle.window.proofs.Weighted.{EachTerm, each_gated, weighted_same, weighted_zero, weighted_scaled, weighted_is, weightedℕ}
use Rattle.window.proofs.Squares.{free_terms, gate_and_free}
use Rattle.window.proofs.Linear.{component_less, value_e, surface_ungated}

-- what a surface leaves of a window at D
abbrev pub left : Window → ℤ → Surface → Window
left p d s x y = d *ℤ p x y -ℤ value s x y

pub gate_left : (p : Window) (d : ℤ) (s : Surface) → gate (left p d s) ≡ sq d *ℤ gate p
unfolding gate
gate_left p d s =
    weighted_same (component (left p d s)) (λ i j. d *ℤ component p i j) gate_terms
    (each_gated (λ i j. sq (component (left p d s) i j) ≡ sq (d *ℤ component p i j))
    (λ i j u t g.
    ap sq
    (component_less p (value s) d i j ∙ ap (λ (z : ℤ). d *ℤ component p i j -ℤ z) (surface_ungated s i j u t g)
    ∙ +ℤ_idr (d *ℤ component p i j))))
    ∙ weighted_scaled d (component p) gate_terms

pub missed_is : (p : Window) (D : ℕ) (s : Surface)
    → pos 400 *ℤ missed p D s ≡ sq (pos D) *ℤ gate p +ℤ weighted free_terms (component (left p (pos D) s))
unfolding missed
missed_is p D s =
    gate_and_free (left p (pos D) s) ∙ ap (λ (z : ℤ). z +ℤ weighted free_terms (component (left p (pos D) s))) (gate_left p (pos D) s)

-- ---- never less

le_pos : (a : ℤ) (n : ℕ) → T (le_z a (a +ℤ pos n))
le_pos (pos a) n = le→leb a (a + n) (omega arith)
le_pos (negsuc a) n =
    cond_ind (ltb n (suc a)) (negsuc (suc a - suc n)) (pos (n - suc a)) (λ z. T (le_z (negsuc a) z))
    (λ t. le→leb (suc a - suc n) a (omega arith)) (λ t. tt)

le_more : (a b c : ℤ) (n : ℕ) → b ≡ a +ℤ c → c ≡ pos n → a ≤ℤ b
le_more a b c n h e = subst (λ (z : ℤ). a ≤ℤ z) (sym (h ∙ ap (λ (z : ℤ). a +ℤ z) e)) (record { le = le_pos a n })

pub never_less : (p : Window) (D : ℕ) (s : Surface) → (sq (pos D) *ℤ gate p) ≤ℤ (pos 400 *ℤ missed p D s)
never_less p D s =
    let c = component (left p (pos D) s) in
    le_more (sq (pos D) *ℤ gate p) (pos 400 *ℤ missed p D s) (weighted free_terms c) (weightedℕ free_terms c) (missed_is p D s)
    (weighted_is c free_terms)

-- ---- reached: the surface, over components (0, 0), (1, 0), (0, 1), (1, 1), (2, 0), (0, 2) and (3, 3) as variables 0 to 6

abbrev seven : Window → List ℤ
seven p =
    component p 0 0 ∷ component p 1 0 ∷ component p 0 1 ∷ component p 1 1 ∷ component p 2 0 ∷ component p 0 2 ∷ component p 3 3 ∷ []

abbrev nearest_e : ℕ → Ex
nearest_e zero = k (pos 25) ⊗ v 0 ⊖ k (pos 15) ⊗ v 1 ⊖ k (pos 15) ⊗ v 2 ⊕ k (pos 9) ⊗ v 3 ⊕ k (pos 25) ⊗ v 4 ⊕ k (pos 25) ⊗ v 5
nearest_e (suc zero) = k (pos 10) ⊗ v 1 ⊖ k (pos 6) ⊗ v 3 ⊖ k (pos 75) ⊗ v 4
nearest_e (suc (suc zero)) = k (pos 10) ⊗ v 2 ⊖ k (pos 6) ⊗ v 3 ⊖ k (pos 75) ⊗ v 5
nearest_e (suc (suc (suc zero))) = k (pos 4) ⊗ v 3
nearest_e (suc (suc (suc (suc zero)))) = k (pos 25) ⊗ v 4
nearest_e (suc (suc (suc (suc (suc zero))))) = k (pos 25) ⊗ v 5
nearest_e (suc (suc (suc (suc (suc (suc n)))))) = v 6

abbrev pub nearest : Window → Surface
nearest p =
    record { a = e 0; b = e 1; c = e 2; d = e 3; e = e 4; f = e 5; m = e 6 }
  where
    e : ℕ → ℤ
    e n = eval (seven p) (nearest_e n)

module _ (p : Window) where
  has : (i j n : ℕ) → T (same (component_e (value_e nearest_e) i j) (k (pos 400) ⊗ v n))
      → component (value (nearest p)) i j ≡ pos 400 *ℤ eval (seven p) (v n)
  has i j n t = ring (seven p) (component_e (value_e nearest_e) i j) (k (pos 400) ⊗ v n) t

  none : (i j : ℕ) → component (value (nearest p)) i j ≡ pos 400 *ℤ component p i j → component (left p (pos 400) (nearest p)) i j ≡ pos 0
  none i j h =
      component_less p (value (nearest p)) (pos 400) i j ∙ ap (λ (z : ℤ). pos 400 *ℤ component p i j -ℤ z) h
      ∙ +ℤ_invr (pos 400 *ℤ component p i j)

  none_free : EachTerm (λ i j. component (left p (pos 400) (nearest p)) i j ≡ pos 0) free_terms
  none_free =
      none 3 3 (has 3 3 6 tt) and none 0 0 (has 0 0 0 tt) and none 1 0 (has 1 0 1 tt) and none 0 1 (has 0 1 2 tt)
      and none 1 1 (has 1 1 3 tt) and none 2 0 (has 2 0 4 tt) and none 0 2 (has 0 2 5 tt) and tt

  pub reached : pos 400 *ℤ missed p 400 (nearest p) ≡ sq (pos 400) *ℤ gate p
  reached =
      missed_is p 400 (nearest p)
      ∙ ap (λ (z : ℤ). sq (pos 400) *ℤ gate p +ℤ z) (weighted_zero (component (left p (pos 400) (nearest p))) free_terms none_free)
      ∙ +ℤ_idr (sq (pos 400) *ℤ gate p)

  pub gate_is_least : Is400TimesLeastMisfit p (gate p)
  gate_is_least = record { never_less = λ D h s. never_less p D s; reached = (400, lit≤ tt, nearest p, sym reached) }
