-- The values that count, added as whole numbers: whatever test the closure computes.
use Rattle.std.proofs.Common.{◌≡◌, ◌*◌, ◌≤◌, Bool}
use lib.Ieee.{Float}
use Rattle.levels.proofs.Means.{Summing}
use Rattle.levels.proofs.mean_of.Given as goal

abbrev pub invariant-loop-v : goal.invariant-loop-v
invariant-loop-v g l = record {
  small : l.sum ≤ l.v-index * 65280;
  few : l.n ≤ l.v-index;
  sums : (p : Float → Bool) → ((v : Float) (r : Bool) → goal.F-post g l.counts v r → r ≡ p v) → Summing p l.values l.sum l.n l.v-index;
}
