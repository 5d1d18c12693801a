-- 1 is its own root. Assumes nothing.
use mathlib.Core.Path.{sym, subst}
use lib.Dec.{T}
use lib.Ieee.{of_bits}
use Rattle.covariance.proofs.Roots.{own_root}
use Rattle.covariance.proofs.root_of.Goals as goal

pub returns-then-x : goal.returns-then-x
unfolding of_bits
returns-then-x c = own_root c.args.x (subst T (sym c.well_formed.0.1) tt) c.if-x.true
