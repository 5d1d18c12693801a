-- Before the first turn the sums are zeros; then each lane takes its gradient. Assumes nothing.
use mathlib.Core.Path.{◌≡◌, refl}
use lib.Ieee.{of_bits, binary64}
use Rattle.gram.specs.declared.Three.{Three}
use Rattle.gram.specs.Loops.{none}
use Rattle.gram.proofs.Sums.{fours_start, turning_more}
use Rattle.gram.proofs.Plain.partials.Goals as goal

zeros : (x : Three) → x.xx ≡ of_bits binary64 0 → x.xy ≡ of_bits binary64 0 → x.yy ≡ of_bits binary64 0 → x ≡ none
unfolding of_bits
zeros x e f g = λ i. record { xx = e i; xy = f i; yy = g i }

pub loop-k-init : goal.loop-k-init
loop-k-init c = let e = c.default-sums.ensures in fours_start _ _ _ (zeros _ e.0 e.1.0 e.1.1)

pub loop-lane-preserved : goal.loop-lane-preserved
loop-lane-preserved c = turning_more _ _ _ c.loop-lane.invariant c.loop-lane-test.true refl c.with_products.ensures
