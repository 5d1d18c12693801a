-- `new` meets its contract: both limits are their definitions. Assumes nothing.
use lib.Ieee.{of_bits, of_int, round}
use Rattle.sums.specs.Admitted.{threshold, cut}
use Rattle.sums.proofs.Limits.new.Goals as goal

pub returns : goal.returns
unfolding threshold cut of_bits of_int round
returns c = (c.limit.ensures, c.limit-2.ensures)
