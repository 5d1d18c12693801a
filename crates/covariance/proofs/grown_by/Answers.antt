-- The root of the sum as it is written. Assumes nothing.
use lib.Ieee.{of_bits, of_int}
use Rattle.covariance.specs.Noise.{grown}
use Rattle.covariance.proofs.grown_by.Goals as goal

pub returns : goal.returns
unfolding grown of_bits of_int
returns c = c.root_of.ensures
