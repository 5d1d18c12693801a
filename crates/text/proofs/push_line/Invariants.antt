-- After k turns k fields are appended, each with what stands after it.
use Rattle.std.proofs.Common.{◌≡◌, ◌++◌, ◌*◌, ◌≤◌, length}
use Rattle.laws.specs.Lists.{joined}
use Rattle.text.specs.Line.{field_at}
use Rattle.text.proofs.push_line.Given as goal

abbrev pub invariant-loop-k : goal.invariant-loop-k
invariant-loop-k g l =
    (l.text.bytes ≡ l.initial.text.bytes ++ joined (field_at l.fields) 0 l.k)
    × (length (joined (field_at l.fields) 0 l.k) ≤ 21 * l.k)
