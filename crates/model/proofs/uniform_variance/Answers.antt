-- 12 is 3 * 2 ^ 2. Assumes nothing.
use mathlib.Core.Path.{refl}
use lib.Ieee.{of_bits, of_int}
use Rattle.model.proofs.uniform_variance.Goals as goal

pub returns : goal.returns
unfolding of_bits of_int
returns c = refl
