-- The gate and the squared output together never exceed 104,040,000: at D = 2 the level surface 255 is missed by at most 255 at each
-- place, and 400 times those squares are 4 × gate, 4 × output² and what is not negative.
use mathlib.Core.Path.{◌≡◌, refl, sym, ap, ◌∙◌, subst}
use mathlib.Core.Bool.{cond}
use Prim.Native.Nat.{ℕ, ◌+◌, ◌*◌, ◌≤◌}
use native.Mathlib.Omega.{arith}
use lib.Dec.{le→leb, eqb, lit≤}
use lib.IntN.{ℤ, pos, nat_abs, ◌+ℤ◌, ◌*ℤ◌}
use lib.Signed.{◌≤ℤ◌}
use Rattle.laws.proofs.Choice.{cond_both}
use Rattle.laws.proofs.Ring.{k, ◌⊗◌, ring}
use Rattle.laws.proofs.Machine.{under, abs_mul}
use Rattle.window.specs.Window.{Window, Pixel, Pixels, P, component, sq, weighted, gate_terms, gate, gate_most}
use Rattle.window.specs.Surface.{Surface, missed}
use Rattle.window.proofs.Expressions.{numbers, at, sum4_e, component_e, sq_e, bounds, within}
use Rattle.window.proofs.Bounds.{centred, centred_e, centred_abs}
use Rattle.window.proofs.Weighted.{sq_is, weighted_is, weightedℕ}
use Rattle.window.proofs.Squares.{free_terms}
use Rattle.window.proofs.Least.{left, missed_is}

abbrev grey : Surface
grey = record { a = pos 255; b = pos 0; c = pos 0; d = pos 0; e = pos 0; f = pos 0; m = pos 0 }

abbrev gateℕ : Window → ℕ
gateℕ p = weightedℕ gate_terms (component p)

pub gate_is : (p : Window) → gate p ≡ pos (gateℕ p)
unfolding gate
gate_is p = weighted_is (component p) gate_terms

module _ (p : Window) (e : Pixels p) where
  abbrev c : ℕ → ℕ → ℤ
  c = component (left p (pos 2) grey)

  abbrev output : ℕ
  output = nat_abs (component p 3 3)

  missed_most : nat_abs (pos 400 *ℤ missed p 2 grey) ≤ 4 * gate_most
  unfolding missed
  missed_most =
      under (numbers (centred p)) (bounds 255) (within (centred p) 255 (centred_abs p e))
      (k (pos 400) ⊗ sum4_e (λ y. sum4_e (λ x. sq_e (at x y)))) (4 * gate_most) tt

  twice_output : nat_abs (c 3 3) ≡ 2 * output
  twice_output =
      ap nat_abs (ring (numbers p) (component_e centred_e 3 3) (k (pos 2) ⊗ component_e at 3 3) tt) ∙ abs_mul (pos 2) (component p 3 3)

  missed_parts : pos 400 *ℤ missed p 2 grey ≡ pos (4 * gateℕ p + weightedℕ free_terms c)
  missed_parts =
      missed_is p 2 grey ∙ ap (λ (z : ℤ). pos 4 *ℤ z +ℤ weighted free_terms c) (gate_is p)
      ∙ ap (λ (z : ℤ). pos (4 * gateℕ p) +ℤ z) (weighted_is c free_terms)

  square : (n : ℕ) → n ≡ 2 * output → n * n ≡ 4 * (output * output)
  square n h = ap (λ (n : ℕ). n * n) h ∙ omega arith

  both_most : gateℕ p + output * output ≤ gate_most
  both_most = omega (arith, missed_most, ap nat_abs missed_parts, square (nat_abs (c 3 3)) twice_output)

  pub gate_and_output_most : (gate p +ℤ sq (component p 3 3)) ≤ℤ pos gate_most
  gate_and_output_most =
      subst (λ (z : ℤ). z ≤ℤ pos gate_most)
      (sym (ap (λ (z : ℤ). z +ℤ sq (component p 3 3)) (gate_is p) ∙ ap (λ (z : ℤ). pos (gateℕ p) +ℤ z) (sq_is (component p 3 3))))
      (record { le = le→leb (gateℕ p + output * output) gate_most both_most })

  pub gate_most_lem : gate p ≤ℤ pos gate_most
  gate_most_lem = subst (λ (z : ℤ). z ≤ℤ pos gate_most) (sym (gate_is p)) (record { le = le→leb (gateℕ p) gate_most (omega (arith, both_most)) })

-- 255 where P2 at x times P2 at y is 1, and 0 where it is -1
abbrev pub peak : Window
peak x y = cond (eqb (nat_abs (P 2 x +ℤ P 2 y)) 2) (pos 255) (pos 0)

pub peak_pixels : Pixels peak
peak_pixels x y s t =
    cond_both Pixel (eqb (nat_abs (P 2 x +ℤ P 2 y)) 2) (pos 255) (pos 0) (record { byte = 255; is = refl; most = lit≤ tt })
    (record { byte = 0; is = refl; most = lit≤ tt })

-- and it is reached
pub gate_most_reached : gate peak ≡ pos gate_most
unfolding gate
gate_most_reached = refl
