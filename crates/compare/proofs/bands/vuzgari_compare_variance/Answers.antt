-- No variance is no number.
use Rattle.std.proofs.Common.{rules}
use lib.Ieee.{of_bits}
use Rattle.compare.proofs.bands.vuzgari_compare_variance.Goals as goal

pub returns : goal.returns
unfolding of_bits
returns c = rw (← c.variance.ensures) (search rules)
