-- Each turn joins the tests of one more knot. Assumes nothing.
use Rattle.knots.proofs.Tables.{Sound}
use Rattle.knots.proofs.rises_in_range.Given as goal

abbrev pub invariant-loop-k : goal.invariant-loop-k
invariant-loop-k l = Sound l.widths l.gains l.residuals l.k l.all l.last
