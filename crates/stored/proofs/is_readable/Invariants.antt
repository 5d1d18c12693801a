use Rattle.std.proofs.Common.{◌≡◌}
use Rattle.stored.specs.Lines.{readable}
use Rattle.stored.proofs.is_readable.Given as goal

-- good says whether the k bytes seen so far stand where they may
abbrev pub invariant-loop-k : goal.invariant-loop-k
invariant-loop-k l = l.good ≡ readable l.text l.columns l.at l.k
