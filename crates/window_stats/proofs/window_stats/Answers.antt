-- `window_stats::window_stats` meets its contract: the two passes make the components, which are small, and `weigh` the gate.
use mathlib.Core.Path.{◌≡◌, ◌∙◌, ap, sym, subst}
use mathlib.Core.List.{List}
use lib.IntN.{ℤ}
use Rattle.laws.specs.Lists.{Each²}
use Rattle.window.specs.Window.{stats_of}
use Rattle.window_stats.specs.Passes.{Small, transposed, poly4_down}
use Rattle.window_stats.proofs.Passes.{passes, in_rows, passed_small, weighable, figures, sum_is, gate_is, output_is}
use Rattle.window_stats.proofs.window_stats.Goals as goal

passed : (px d t c : List (List ℤ)) → c ≡ poly4_down t → t ≡ transposed d → d ≡ poly4_down px → c ≡ passes px
passed px d t c e f g = e ∙ ap poly4_down (f ∙ ap transposed g)

pub poly4_down-c-requires : goal.poly4_down-c-requires
poly4_down-c-requires c =
    subst (λ (m : List (List ℤ)). Each² (Small 4080) m) (sym (c.transpose-t.ensures ∙ ap transposed c.poly4_down-d.ensures))
    (passed_small c.args.px (in_rows c.args.px c.requires))

pub weigh-gate-requires : goal.weigh-gate-requires
weigh-gate-requires c =
    weighable c.args.px _ (in_rows c.args.px c.requires)
    (passed c.args.px _ _ _ c.poly4_down-c.ensures c.transpose-t.ensures c.poly4_down-d.ensures)

pub returns : goal.returns
unfolding stats_of
returns c =
    let x = c.args.px in
    let r = c.poly4_down-c.result in
    let m = in_rows x c.requires in
    let p = passed c.args.px _ _ _ c.poly4_down-c.ensures c.transpose-t.ensures c.poly4_down-d.ensures in
    let g = c.weigh-gate in
    figures (sum_is x r m p) (gate_is x r m p g.result g.type_inv g.ensures) (output_is x r m p)
