-- `window_stats::window` meets its contract: the four numbers hold the pixels of the window, and its figures depend on those alone.
use mathlib.Core.Path.{◌∙◌}
use Rattle.window_stats.proofs.Words.{words_stats, packed_same}
use Rattle.window_stats.proofs.window.Goals as goal

pub returns : goal.returns
returns c =
    c.packed.ensures ∙ packed_same c.word-a.ensures c.word-b.ensures c.word-c.ensures c.word-d.ensures
    ∙ words_stats c.args.img.now c.type_inv.img c.args.w c.args.at
