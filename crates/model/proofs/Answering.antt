-- Each call's number is that of the first cause that applies, and a refusal answers zeros. Assumes nothing.
use mathlib.Core.Path.{◌≡◌, refl, subst}
use mathlib.Core.Bool.{Bool, true, false, cond, not, ◌&&◌}
use mathlib.Core.List.{List, [], ◌∷◌}
use mathlib.Core.Logic.{◌↔◌, inl, inr}
use Prim.Native.Nat.{ℕ}
use native.Mathlib.Omega.{arith}
use lib.Ieee.{Float}
use Rattle.std.specs.Prelude.{Option, Result, Ok, Err}
use Rattle.numbers.specs.declared.Number.{Number}
use Rattle.numbers.specs.declared.Number.TheVariants.{Knots, FloatRange, NotFinite}
use Rattle.numbers.specs.Numbers.{number_in}
use Rattle.laws.proofs.Choice.{cond_both}
use Rattle.ieee.specs.Numbers.{plus_zero}
use Rattle.refine.specs.Numbers.{OneOf}
use Rattle.refine.specs.Covariance.{zeros, all_finite}
use Rattle.refine.specs.declared.PositionCovariance.{PositionCovariance}
use Rattle.laws.proofs.Refusing.{unless, its_own, otherwise, another, neither}
use Rattle.covariance.specs.declared.CovarianceModel.{CovarianceModel}
use Rattle.model.specs.declared.SystematicModel.{SystematicModel}
use Rattle.model.specs.declared.GainResidual.{GainResidual}
use Rattle.model.specs.Knots.{rising_knots, knots_in_range, after_knots, both_at, at_of, at_gain, at_residual}
use Rattle.model.specs.Model.{systematic_at, estimate_in_range, ungrown, model_of, model_shown}
use Rattle.model.specs.Answers.{AtAnswers, ModelAnswers}

-- ---- at

module _ (k : GainResidual) where
  -- by the two tests
  by : Bool → Bool → Result GainResidual Number
  by a b = cond (not a) (Err Knots) (cond (not b) (Err FloatRange) (Ok k))

  number_of_at : (a b : Bool) → cond (not a) 14 (cond (not b) 12 0) ≡ number_in (by a b)
  unfolding by
  number_of_at true true = refl
  number_of_at true false = refl
  number_of_at false b = refl

  zeros_back : (a b : Bool) → (number_in (by a b) ≡ 0 → ⊥) → (at_gain (by a b) ≡ plus_zero) × (at_residual (by a b) ≡ plus_zero)
  unfolding by
  zeros_back true true h = absurd (h refl)
  zeros_back true false h = (refl, refl)
  zeros_back false b h = (refl, refl)

  figures_back : (a b : Bool) → number_in (by a b) ≡ 0 → (at_gain (by a b) ≡ k.gain) × (at_residual (by a b) ≡ k.residual)
  unfolding by
  figures_back true true h = (refl, refl)
  figures_back true false h = absurd (omega arith)
  figures_back false b h = absurd (omega arith)

pub at_answers : (s : SystematicModel) (w : Option Float) → AtAnswers s w (at_of s w)
unfolding at_of after_knots by
at_answers s w = record {
  is_14 = turn 14 (its_own (unless a) (neither (not b) (λ q. omega arith) (λ q. omega arith)));
  is_12 = turn 12 (another (unless a) (λ q. omega arith) (its_own (unless b) (λ q. omega arith)));
  is_0 = turn 0 (another (unless a) (λ q. omega arith) (otherwise (unless b) (λ q. omega arith)));
  no_other = subst (OneOf all) e (cond_both (OneOf all) (not a) 14 _ (inl refl) (cond_both (OneOf all) (not b) 12 0 (inr (inl refl)) (inr (inr (inl refl)))));
  refused = zeros_back (both_at s w) a b;
  done = figures_back (both_at s w) a b;
}
  where
    a : Bool
    a = rising_knots s

    b : Bool
    b = knots_in_range s

    all : List ℕ
    all = 14 ∷ 12 ∷ 0 ∷ []

    e : cond (not a) 14 (cond (not b) 12 0) ≡ number_in (at_of s w)
    e = number_of_at (both_at s w) a b

    turn : (k : ℕ) {X : Type 0} → (cond (not a) 14 (cond (not b) 12 0) ≡ k) ↔ X → (number_in (at_of s w) ≡ k) ↔ X
    turn k {X} t = subst (λ (m : ℕ). (m ≡ k) ↔ X) e t

-- ---- model

module _ (good : CovarianceModel) where
  -- by the three tests
  tested : Bool → Bool → Bool → Result CovarianceModel Number
  tested a b d = cond (not a) (Err Knots) (cond (not b) (Err FloatRange) (cond (not d) (Err NotFinite) (Ok good)))

  number_of_model : (a b d : Bool) → cond (not a) 14 (cond (not b) 12 (cond (not d) 13 0)) ≡ number_in (tested a b d)
  unfolding tested
  number_of_model true true true = refl
  number_of_model true true false = refl
  number_of_model true false d = refl
  number_of_model false b d = refl

  no_model : (a b d : Bool) → (number_in (tested a b d) ≡ 0 → ⊥) → model_shown (tested a b d) ≡ ungrown zeros zeros
  unfolding tested
  no_model true true true h = absurd (h refl)
  no_model true true false h = refl
  no_model true false d h = refl
  no_model false b d h = refl

  its_model : (a b d : Bool) → number_in (tested a b d) ≡ 0 → model_shown (tested a b d) ≡ good
  unfolding tested
  its_model true true true h = refl
  its_model true true false h = absurd (omega arith)
  its_model true false d h = absurd (omega arith)
  its_model false b d h = absurd (omega arith)

module _ (s : SystematicModel) (c : PositionCovariance) (u : List Float) (w : Option Float) (grid : Float) where
  pub model_answers : ModelAnswers s c u w grid (model_of s c u w grid)
  unfolding model_of tested
  model_answers = record {
    is_14 = turn 14 (its_own (unless a) (neither (not b) (λ q. omega arith) (neither (not d) (λ q. omega arith) (λ q. omega arith))));
    is_12 = turn 12 (another (unless a) (λ q. omega arith) (its_own (unless b) (neither (not d) (λ q. omega arith) (λ q. omega arith))));
    is_13 = turn 13 (another (unless a) (λ q. omega arith) (another (unless b) (λ q. omega arith) (its_own (unless d) (λ q. omega arith))));
    is_0 = turn 0 (another (unless a) (λ q. omega arith) (another (unless b) (λ q. omega arith) (otherwise (unless d) (λ q. omega arith))));
    no_other = subst (OneOf all) e
        (cond_both (OneOf all) (not a) 14 _ (inl refl) (cond_both (OneOf all) (not b) 12 _ (inr (inl refl)) (cond_both (OneOf all) (not d) 13 0 (inr (inr (inl refl))) (inr (inr (inr (inl refl)))))));
    refused = no_model good a b d;
    done = its_model good a b d;
  }
    where
      a : Bool
      a = rising_knots s

      b : Bool
      b = knots_in_range s && estimate_in_range c u grid

      d : Bool
      d = all_finite (systematic_at s u w grid)

      good : CovarianceModel
      good = ungrown c (systematic_at s u w grid)

      all : List ℕ
      all = 14 ∷ 12 ∷ 13 ∷ 0 ∷ []

      e : cond (not a) 14 (cond (not b) 12 (cond (not d) 13 0)) ≡ number_in (model_of s c u w grid)
      e = number_of_model good a b d

      turn : (k : ℕ) {X : Type 0} → (cond (not a) 14 (cond (not b) 12 (cond (not d) 13 0)) ≡ k) ↔ X → (number_in (model_of s c u w grid) ≡ k) ↔ X
      turn k {X} t = subst (λ (m : ℕ). (m ≡ k) ↔ X) e t
