-- `measure::measure` meets its contract, row by row.
use Rattle.measure.proofs.Measuring.{Measuring}
use Rattle.measure.proofs.measure.Given as goal

abbrev pub invariant-loop-j : goal.invariant-loop-j
invariant-loop-j l = Measuring l.img l.w l.s l.j-end l.t l.initial.ints l.ints l.to l.j
