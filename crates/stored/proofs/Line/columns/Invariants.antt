use Rattle.std.proofs.Common.{◌≡◌, ◌<◌, ℕ, length, slice_index, Some}
use Rattle.stored.specs.Lines.{number_at}
use Rattle.stored.proofs.Line.columns.Given as goal

abbrev pub invariant-loop-j : goal.invariant-loop-j
invariant-loop-j g l = record {
  long : length l.number-items ≡ g.row.N;
  read : (k : ℕ) → k < l.j → number_at l.self.list.text.now g.row.N l.self.i k ≡ Some (slice_index l.number-items k);
}
