-- The same operations, with the constants named.
use mathlib.Core.Path.{refl}
use Rattle.disk.proofs.Constants.{four_is, six_is}
use Rattle.disk.proofs.binomial.Goals as goal

pub returns : goal.returns
returns c = rw (four_is, six_is) refl
