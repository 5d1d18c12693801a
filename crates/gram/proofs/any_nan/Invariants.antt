-- Each turn tests the next gradient. Assumes nothing.
use mathlib.Core.Path.{◌≡◌}
use Rattle.gram.specs.Loops.{any_nan}
use Rattle.gram.proofs.any_nan.Given as goal

abbrev pub invariant-loop-i : goal.invariant-loop-i
invariant-loop-i l = l.found ≡ any_nan l.gx l.gy l.i
