-- The formulas, step by step: what a step holds is put where the definition computes it. Assumes nothing.
use mathlib.Core.Path.{◌≡◌, sym, ap, ◌∙◌}
use mathlib.Core.Bool.{Bool, true, false, cond}
use mathlib.Core.List.{List}
use lib.Ieee.{Float, le}
use Rattle.ieee.specs.Numbers.{plus_zero}
use Rattle.refine.specs.declared.PositionCovariance.{PositionCovariance}
use Rattle.ranges.specs.Arith.{◌⊕◌, ◌⊖◌, ◌⊗◌, ◌⊘◌, at}
use Rattle.model.specs.Systematic.{uniform_variance, about, systematic}

module _ (g rho floor : Float) (u : List Float) (grid : Float) where
  -- by the prior and the test of the denominator
  by : Float → Bool → PositionCovariance
  by prior limit =
      let rho2 = rho ⊗ rho in
      let denom = g ⊗ g ⊗ prior ⊕ rho2 in
      let shrink = g ⊗ prior ⊘ denom in
      about (cond limit (at u 0) (at u 0 ⊖ shrink ⊗ at u 0)) (cond limit (at u 1) (at u 1 ⊖ shrink ⊗ at u 1)) (cond limit prior (prior ⊗ rho2 ⊘ denom) ⊕ floor ⊗ floor)

  is : {p : Float} {b : Bool} → p ≡ uniform_variance grid → le (g ⊗ g ⊗ p ⊕ rho ⊗ rho) plus_zero ≡ b → by p b ≡ systematic g rho floor u grid
  unfolding systematic by
  is {p} e t = sym (ap (by p) t) ∙ ap (λ (p : Float). by p (le (g ⊗ g ⊗ p ⊕ rho ⊗ rho) plus_zero)) e

  pub nothing_said : {p : Float} {r : PositionCovariance} → p ≡ uniform_variance grid → le (g ⊗ g ⊗ p ⊕ rho ⊗ rho) plus_zero ≡ true
      → r ≡ about (at u 0) (at u 1) (p ⊕ floor ⊗ floor) → r ≡ systematic g rho floor u grid
  unfolding by
  nothing_said e t h = h ∙ is e t

  pub something_said : {p : Float} {r : PositionCovariance} → p ≡ uniform_variance grid → le (g ⊗ g ⊗ p ⊕ rho ⊗ rho) plus_zero ≡ false
      → r ≡ about (at u 0 ⊖ g ⊗ p ⊘ (g ⊗ g ⊗ p ⊕ rho ⊗ rho) ⊗ at u 0) (at u 1 ⊖ g ⊗ p ⊘ (g ⊗ g ⊗ p ⊕ rho ⊗ rho) ⊗ at u 1) (p ⊗ (rho ⊗ rho) ⊘ (g ⊗ g ⊗ p ⊕ rho ⊗ rho) ⊕ floor ⊗ floor)
      → r ≡ systematic g rho floor u grid
  unfolding by
  something_said e t h = h ∙ is e t
