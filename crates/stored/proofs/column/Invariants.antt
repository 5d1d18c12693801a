use Rattle.std.proofs.Common.{◌≡◌, ◌^◌, ◌<◌}
use Rattle.stored.specs.Lines.{written}
use Rattle.stored.proofs.column.Given as goal

-- n is what the digits read so far write
abbrev pub invariant-loop-c : goal.invariant-loop-c
invariant-loop-c l = record { is : l.n ≡ written l.text l.at l.c-index; below : l.n < 16 ^ l.c-index }
