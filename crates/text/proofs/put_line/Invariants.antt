-- After k turns k fields are laid, each with what stands after it.
use Rattle.std.proofs.Common.{◌*◌, ◌≤◌, length}
use Rattle.text.specs.Placed.{LaidTo}
use Rattle.text.proofs.Lines.{before}
use Rattle.text.proofs.put_line.Given as goal

abbrev pub invariant-loop-k : goal.invariant-loop-k
invariant-loop-k l =
    LaidTo l.initial.out l.at (before l.fields l.k) l.to l.out
    × (length (before l.fields l.k) ≤ 21 * l.k)
