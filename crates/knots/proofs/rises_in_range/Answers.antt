use mathlib.Core.Path.{ap, ◌∙◌}
use native.Mathlib.Nat.{le_antisymm}
use lib.Ieee.{of_bits}
use Rattle.knots.specs.Loops.{sound}
use Rattle.knots.proofs.Tables.{sound_start, sound_more}
use Rattle.knots.proofs.rises_in_range.Goals as goal

pub loop-k-init : goal.loop-k-init
unfolding of_bits
loop-k-init c = sound_start _ _ _

pub loop-k-preserved : goal.loop-k-preserved
loop-k-preserved c = sound_more _ _ _ c.loop-k.invariant c.within.ensures c.within-in-loop-k.ensures c.within-in-loop-k-2.ensures

pub returns : goal.returns
returns c =
    let s = c.args in
    c.loop-k.invariant.so ∙ ap (sound s.widths.now s.gains.now s.residuals.now) (le_antisymm c.loop-k.auto.k-end c.loop-k-test.false)
