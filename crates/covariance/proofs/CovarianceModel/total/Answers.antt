-- What refuses the noise term. Assumes nothing.
use Rattle.std.proofs.Common.{rules}
use Rattle.covariance.proofs.Formulas.{total_refused}
use Rattle.covariance.proofs.CovarianceModel.total.Goals as goal

pub returns-in_err-noise_at : goal.returns-in_err-noise_at
returns-in_err-noise_at c = let e = total_refused c.args.self c.args.sigma _ c.in_err-noise_at.ensures in search (rules, e)
