-- Demand 1 at `noise_at` and `total`: 12 refuses exactly where a part is out of its range, used or not; and what comes. Laws:
-- `noise_at_answers`, `total_answers`.
use Rattle.std.specs.Prelude.{◌≡◌, true, false, [], ◌∷◌, ◌⊎◌, ◌↔◌, Float, Result}
use Rattle.numbers.specs.declared.Number.{Number}
use Rattle.numbers.specs.Numbers.{number_in}
use Rattle.refine.specs.Covariance.{zeros, all_finite, figures}
use Rattle.refine.specs.Numbers.{OneOf}
use Rattle.refine.specs.declared.PositionCovariance.{PositionCovariance}
use Rattle.ranges.specs.Ranges.{all_within, both_within, sigma_range}
use Rattle.covariance.specs.declared.CovarianceModel.{CovarianceModel}

-- the noise part, the systematic part, growth or sigma is out of its range
abbrev pub OutOfRange : CovarianceModel → Float → Type 0
OutOfRange m sigma =
    (all_within 1000000 m.noise ≡ false)
    ⊎ ((all_finite m.systematic ≡ false) ⊎ ((both_within 1000 m.growth ≡ false) ⊎ (sigma_range sigma ≡ false)))

abbrev pub InRange : CovarianceModel → Float → Type 0
InRange m sigma =
    (all_within 1000000 m.noise ≡ true) × (all_finite m.systematic ≡ true) × (both_within 1000 m.growth ≡ true)
    × (sigma_range sigma ≡ true)

pub record NoiseAnswers (m : CovarianceModel) (sigma : Float) (figure : PositionCovariance) (j : Result PositionCovariance Number) : Type 0 where
  pub is_12 : (number_in j ≡ 12) ↔ OutOfRange m sigma
  pub is_0 : (number_in j ≡ 0) ↔ InRange m sigma
  pub no_other : OneOf (12 ∷ 0 ∷ []) (number_in j)
  pub refused : (number_in j ≡ 0 → ⊥) → figures j ≡ zeros
  pub done : number_in j ≡ 0 → figures j ≡ figure
