-- Demand 1 at `at` and `model`: which numbers can come, each exactly where its cause is the first that applies, in document 01's
-- order, and what comes. Laws: `at_answers`, `model_answers`.
use Rattle.std.specs.Prelude.{◌≡◌, true, false, ◌&&◌, List, [], ◌∷◌, ◌↔◌, Float, Option, Result}
use Rattle.numbers.specs.declared.Number.{Number}
use Rattle.numbers.specs.Numbers.{number_in}
use Rattle.ieee.specs.Numbers.{plus_zero}
use Rattle.refine.specs.Covariance.{zeros, all_finite}
use Rattle.refine.specs.Numbers.{OneOf}
use Rattle.refine.specs.declared.PositionCovariance.{PositionCovariance}
use Rattle.covariance.specs.declared.CovarianceModel.{CovarianceModel}
use Rattle.model.specs.declared.SystematicModel.{SystematicModel}
use Rattle.model.specs.declared.GainResidual.{GainResidual}
use Rattle.model.specs.Knots.{rising_knots, knots_in_range, gain_at, residual_at, at_gain, at_residual}
use Rattle.model.specs.Model.{systematic_at, estimate_in_range, ungrown, model_shown}

-- `at`: 14, 12
pub record AtAnswers (s : SystematicModel) (w : Option Float) (a : Result GainResidual Number) : Type 0 where
  pub is_14 : (number_in a ≡ 14) ↔ (rising_knots s ≡ false)
  pub is_12 : (number_in a ≡ 12) ↔ ((rising_knots s ≡ true) × (knots_in_range s ≡ false))
  pub is_0 : (number_in a ≡ 0) ↔ ((rising_knots s ≡ true) × (knots_in_range s ≡ true))
  pub no_other : OneOf (14 ∷ 12 ∷ 0 ∷ []) (number_in a)
  pub refused : (number_in a ≡ 0 → ⊥) → (at_gain a ≡ plus_zero) × (at_residual a ≡ plus_zero)
  pub done : number_in a ≡ 0 → (at_gain a ≡ gain_at s w) × (at_residual a ≡ residual_at s w)

-- `model`: 14, 12, 13
pub record ModelAnswers (s : SystematicModel) (c : PositionCovariance) (u : List Float) (w : Option Float) (grid : Float)
    (m : Result CovarianceModel Number) : Type 0 where
  pub is_14 : (number_in m ≡ 14) ↔ (rising_knots s ≡ false)
  pub is_12 : (number_in m ≡ 12) ↔ ((rising_knots s ≡ true) × (knots_in_range s && estimate_in_range c u grid ≡ false))
  pub is_13 : (number_in m ≡ 13)
      ↔ ((rising_knots s ≡ true) × ((knots_in_range s && estimate_in_range c u grid ≡ true)
      × (all_finite (systematic_at s u w grid) ≡ false)))
  pub is_0 : (number_in m ≡ 0)
      ↔ ((rising_knots s ≡ true) × ((knots_in_range s && estimate_in_range c u grid ≡ true)
      × (all_finite (systematic_at s u w grid) ≡ true)))
  pub no_other : OneOf (14 ∷ 12 ∷ 13 ∷ 0 ∷ []) (number_in m)
  pub refused : (number_in m ≡ 0 → ⊥) → model_shown m ≡ ungrown zeros zeros
  pub done : number_in m ≡ 0 → model_shown m ≡ ungrown c (systematic_at s u w grid)
