use Rattle.std.proofs.Common.{◌≡◌, ◌≤◌}
use Rattle.stored.specs.Lines.{hits}
use Rattle.stored.proofs.count.Given as goal

-- n counts the hits among the lines before the next
abbrev pub invariant-loop-i : goal.invariant-loop-i
invariant-loop-i l = record {
  counted : l.n ≡ hits l.text l.columns l.letter l.good l.i;
  most : l.n ≤ l.i;
}
