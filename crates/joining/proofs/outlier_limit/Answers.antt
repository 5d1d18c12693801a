-- `outlier_limit` meets its contract: it is its definition, operation by operation. Assumes nothing.
use mathlib.Core.Path.{ap}
use lib.Ieee.{binary64, mul, of_bits, of_int, round}
use Rattle.joining.specs.Numbers.{max_band_outlier}
use Rattle.joining.specs.Joining.{outlier_limit}
use Rattle.joining.proofs.outlier_limit.Goals as goal

pub returns : goal.returns
unfolding outlier_limit of_bits of_int round
returns c = ap (mul binary64 max_band_outlier) c.max.ensures
