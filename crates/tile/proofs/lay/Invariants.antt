-- Sample k of the row is the pixel that the closure gives for k.
use Rattle.std.proofs.Common.{◌≡◌, ℕ, ◌<◌, length}
use Rattle.ieee.specs.Numbers.{f32_of}
use Rattle.laws.proofs.Fill.{Row}
use Rattle.tile.specs.Tile.{ByteSamples}
use Rattle.tile.proofs.lay.Given as goal

abbrev pub invariant-loop-k : goal.invariant-loop-k
invariant-loop-k g l = record {
  long : length l.samples ≡ 289;
  bytes : ByteSamples l.initial.samples → ByteSamples l.samples;
  row : (f : ℕ → ℕ) → ((i r : ℕ) → i < 17 → goal.F-post g l.pixel i r → r ≡ f i) → Row (λ i. f32_of (f i)) l.initial.samples l.to 17 l.k l.samples;
}
