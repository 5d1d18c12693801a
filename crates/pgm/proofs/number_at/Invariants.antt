-- The loop reads a run of digits: what is left of the run is what is yet to be read. A sixth digit, no digit and a zero in front are no numeral.
use Prim.Native.Nat.{◌-◌}
use lib.ListN.{length}
use Rattle.pgm.proofs.Runs.{Run}
use Rattle.pgm.proofs.number_at.Given as goal

abbrev pub invariant-loop-at : goal.invariant-loop-at
invariant-loop-at l = Run l.file l.at l.end l.number

abbrev pub decreases-loop-at : goal.decreases-loop-at
decreases-loop-at l = length l.file - l.end
