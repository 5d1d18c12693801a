-- The cuts are a fifth of the range from the highest and the lowest value.
use Rattle.std.proofs.Common.{ap, ◌∙◌, rules}
use lib.Ieee.{Float, binary32, add, sub, le}
use Rattle.levels.specs.Levels.{high_level}
use Rattle.levels.proofs.Contrasts.{band, high_is, low_is}
use Rattle.levels.proofs.contrast.Goals as goal

pub returns : goal.returns
returns c =
    let l = c.args.values.now in
    let e = c.extremes-most.result in
    let h = c.extremes-most.ensures in
    ap (λ (x : Float). sub binary32 x c.mean_of-2.result)
    (c.mean_of.ensures (λ v. le (sub binary32 e.0 (band e.0 e.1)) v) (λ v r k. search rules) ∙ high_is l e.0 e.1 h.0 h.1)
    ∙ ap (λ (x : Float). sub binary32 (high_level l) x)
    (c.mean_of-2.ensures (λ v. le v (add binary32 e.1 (band e.0 e.1))) (λ v r k. search rules) ∙ low_is l e.0 e.1 h.0 h.1)
