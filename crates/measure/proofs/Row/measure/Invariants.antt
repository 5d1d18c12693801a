-- `measure::Row::measure` meets its contract: up to 32 windows more each turn.
use Prim.Native.Nat.{◌*◌, min}
use Rattle.measure.specs.Loops.{figure_of, Filled}
use Rattle.measure.proofs.Row.measure.Given as goal

abbrev pub invariant-loop-i : goal.invariant-loop-i
invariant-loop-i l =
    let r = l.self in
    Filled l.t l.to (min (l.i * 32) r.n) (figure_of r.img.now r.w r.at r.s) l.initial.ints l.ints
