-- The constant is the f32 nearest to 1 / 12. Assumes nothing.
use lib.Ieee.{of_bits, round}
use Rattle.std.proofs.Common.{rules}
use Rattle.covariance.proofs.variance_of.Goals as goal

pub returns : goal.returns
unfolding of_bits round
returns c = search rules
