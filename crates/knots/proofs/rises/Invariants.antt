-- Each turn joins the test of one more pair. Assumes nothing.
use mathlib.Core.Path.{◌≡◌}
use lib.ListN.{length}
use Rattle.knots.specs.Places.{every, rises_at}
use Rattle.knots.proofs.rises.Given as goal

abbrev pub invariant-loop-pair : goal.invariant-loop-pair
invariant-loop-pair l = l.all ≡ every (rises_at l.widths) (length l.yielded)
