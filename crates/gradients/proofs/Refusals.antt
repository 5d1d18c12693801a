-- What a call answers, from the tests on the way: one law for each way out. Assumes nothing.
use mathlib.Core.Path.{◌≡◌, refl, sym, ap, ◌∙◌}
use mathlib.Core.Bool.{Bool, true, false, cond, not}
use Prim.Native.Nat.{ℕ, ◌*◌, ◌≤◌}
use mathlib.Core.List.{List}
use lib.IntN.{ℤ}
use lib.Ieee.{Float}
use Rattle.std.specs.Prelude.{Result, Ok, Err}
use Rattle.numbers.specs.declared.Number.{Number}
use Rattle.numbers.specs.declared.Number.TheVariants.{FloatRange, Outside}
use Rattle.refine.specs.Covariance.{judged}
use Rattle.gradients.specs.declared.PixelGradients.{PixelGradients}
use Rattle.support.specs.Support.{state_judged}
use Rattle.support.proofs.Places.{few_cells}
use Rattle.support.proofs.Refusals.{small, state_stands, state_passes}
use Rattle.gradients.specs.Gradients.{in_support, cell, both_finite, place_of, support_gram, covariance_of}

-- ---- place

module _ (s : PixelGradients) (x y : ℤ) (v : List Float) where
  -- by the tests after those of the state, in their order
  by : Bool → Bool → ℕ → Result ℕ Number
  by a b k = cond (not a) (Err FloatRange) (cond (not b) (Err Outside) (Ok k))

  pub place_state : (why : Number) → Err why ≡ state_judged s.origin s.side → Err why ≡ place_of s x y v
  unfolding place_of by
  place_state why e = state_stands s.origin s.side (by (both_finite v) (in_support s x y) (cell s x y)) why e

  module _ (e : Ok tt ≡ state_judged s.origin s.side) where
    answered : (a b : Bool) (k : ℕ) → both_finite v ≡ a → in_support s x y ≡ b → cell s x y ≡ k → by a b k ≡ place_of s x y v
    unfolding place_of by
    answered a b k f i h =
        ap (λ (z : Bool). by z b k) (sym f) ∙ ap (λ (z : Bool). by (both_finite v) z k) (sym i)
        ∙ ap (by (both_finite v) (in_support s x y)) (sym h) ∙ state_passes s.origin s.side (by (both_finite v) (in_support s x y) (cell s x y)) e

    pub place_12 : both_finite v ≡ false → Err FloatRange ≡ place_of s x y v
    unfolding by
    place_12 f = answered false (in_support s x y) (cell s x y) f refl refl

    module _ (f : both_finite v ≡ true) where
      pub place_11 : in_support s x y ≡ false → Err Outside ≡ place_of s x y v
      unfolding by
      place_11 i = answered true false (cell s x y) f i refl

      pub place_0 : in_support s x y ≡ true → {k : ℕ} → k ≡ cell s x y → Ok k ≡ place_of s x y v
      unfolding by
      place_0 i {k} h = answered true true k f i (sym h)

-- ---- covariance

module _ (s : PixelGradients) where
  -- a support that nothing refuses has at most 1,024 cells
  pub few : Ok tt ≡ state_judged s.origin s.side → s.side * s.side ≤ 1024
  few e = few_cells s.side (small s.origin s.side e)

  pub covariance_state : (why : Number) → Err why ≡ state_judged s.origin s.side → Err why ≡ covariance_of s
  unfolding covariance_of
  covariance_state why e = state_stands s.origin s.side (judged (support_gram s)) why e

  pub covariance_0 : Ok tt ≡ state_judged s.origin s.side → judged (support_gram s) ≡ covariance_of s
  unfolding covariance_of
  covariance_0 e = state_passes s.origin s.side (judged (support_gram s)) e

-- what `covariance` needs
pub ruleset covered = (few, covariance_state, covariance_0)
