use Rattle.std.proofs.Common.{◌≡◌, ◌<◌, ℕ, length, slice_index}
use Rattle.stored.specs.Lines.{column_byte}
use Rattle.stored.proofs.bytes_in.Given as goal

abbrev pub invariant-loop-k : goal.invariant-loop-k
invariant-loop-k l = record {
  long : length l.byte-items ≡ 40;
  written : (i : ℕ) → i < l.k → slice_index l.byte-items i ≡ column_byte l.columns i;
}
