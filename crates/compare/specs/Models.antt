-- Models that are lent by their floats, and models as floats.
use Rattle.std.specs.Prelude.{ℕ, Bool, cond, ◌≡◌, List, [], ◌∷◌, ◌++◌, get_or, Float, Option, Some, None, Result}
use Rattle.std.specs.Float.{nan}
use Rattle.covariance.specs.declared.CovarianceModel.{CovarianceModel}
use Rattle.numbers.specs.declared.Number.{Number}
use Rattle.numbers.specs.Numbers.{number_in}
use Rattle.model.specs.declared.GainResidual.{GainResidual}
use Rattle.model.specs.Knots.{at_gain, at_residual}
use Rattle.model.specs.Model.{model_shown}
use Rattle.compare.specs.Lent.{covariance_from, entries}

abbrev pub width_from : Bool → Float → Option Float
width_from known w = cond known (Some w) None

abbrev pub model_from : List Float → List Float → List Float → CovarianceModel
model_from noise systematic growth =
    record { noise = covariance_from noise; systematic = covariance_from systematic; growth = growth }

-- the number, gain and residual
pub record ToldAt (a : Result GainResidual Number) (number : ℕ) (out : List Float) : Type 0 where
  pub told : number ≡ number_in a
  pub laid : out ≡ at_gain a ∷ at_residual a ∷ []

-- a model's eight floats
abbrev pub floats : CovarianceModel → List Float
floats m = entries m.noise ++ (entries m.systematic ++ (get_or m.growth 0 nan ∷ get_or m.growth 1 nan ∷ []))

-- the number, and the model by its floats
pub record ToldModel (m : Result CovarianceModel Number) (number : ℕ) (out : List Float) : Type 0 where
  pub told : number ≡ number_in m
  pub laid : out ≡ floats (model_shown m)
