-- The limit is the whole number. Assumes nothing.
use lib.Ieee.{of_bits}
use Rattle.ranges.proofs.Bounds.{whole_value, up_to_is}
use Rattle.ranges.proofs.up_to.Goals as goal

pub returns : goal.returns
unfolding of_bits
returns g c = up_to_is _ _ (whole_value _ c.requires) c.args.x
