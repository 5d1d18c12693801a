-- Each way out of the total. Assumes nothing.
use mathlib.Core.Path.{◌≡◌, ap}
use mathlib.Core.Bool.{Bool, true, false, cond, not}
use lib.Ieee.{Float}
use Rattle.std.specs.Prelude.{Result, Ok, Err}
use Rattle.numbers.specs.declared.Number.{Number}
use Rattle.numbers.specs.declared.Number.TheVariants.{FloatRange}
use Rattle.refine.specs.Covariance.{add_covariance}
use Rattle.refine.specs.declared.PositionCovariance.{PositionCovariance}
use Rattle.covariance.specs.declared.CovarianceModel.{CovarianceModel}
use Rattle.covariance.specs.Noise.{noise_term, whole_term, model_in_range, noise_at, total_at}

module _ (m : CovarianceModel) (sigma : Float) where
  by : Bool → PositionCovariance → Result PositionCovariance Number
  by b c = cond (not b) (Err FloatRange) (Ok c)

  pub total_refused : (why : Number) → Err why ≡ noise_at m sigma → Err why ≡ total_at m sigma
  unfolding noise_at total_at by
  total_refused why = go (model_in_range m sigma)
    where
      go : (b : Bool) → Err why ≡ by b (noise_term m sigma) → Err why ≡ by b (whole_term m sigma)
      go true e = cc
      go false e = e

  pub total_given : (c : PositionCovariance) → Ok c ≡ noise_at m sigma → Ok (add_covariance c m.systematic) ≡ total_at m sigma
  unfolding noise_at total_at by
  total_given c = go (model_in_range m sigma)
    where
      go : (b : Bool) → Ok c ≡ by b (noise_term m sigma) → Ok (add_covariance c m.systematic) ≡ by b (whole_term m sigma)
      go true e = let q : c ≡ noise_term m sigma = cc in ap (λ (t : PositionCovariance). Ok (add_covariance t m.systematic)) q
      go false e = cc
