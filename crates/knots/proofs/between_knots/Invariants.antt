-- A turn passes a pair that lies below w, or answers with the first that does not. Assumes nothing.
use Prim.Native.Nat.{◌-◌}
use lib.ListN.{length}
use Rattle.knots.proofs.Tables.{Seeking}
use Rattle.knots.proofs.between_knots.Given as goal

abbrev pub invariant-loop-k : goal.invariant-loop-k
invariant-loop-k l = Seeking l.widths l.w (length l.widths - 1) (length l.yielded)
