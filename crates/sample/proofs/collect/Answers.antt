-- `sample::collect` meets its contract: the figures are read back from the columns as they were laid.
use Rattle.std.proofs.Common.{List, sym, ap, ◌∙◌}
use lib.ListN.{length-map}
use Rattle.window.specs.declared.WindowStats.{WindowStats}
use Rattle.grid.specs.Grid.{places_of}
use Rattle.measure.specs.Figures.{figure_at, figures_of}
use Rattle.band.specs.Bands.{sample_of}
use Rattle.sample.specs.Laid.{laid_in}
use Rattle.measure.proofs.Columns.{read_back}
use Rattle.sample.proofs.collect.Goals as goal

pub returns : goal.returns
returns c =
    let a = c.args in
    let m = c.measure-t.ensures in
    let g = a.grid in
    let fs = figures_of a.img.now g.w g.h g.windows in
    let e = read_back fs a.ints.now (m.0 ∙ sym (length-map (places_of g.w g.h g.windows) (figure_at a.img.now g.w))) m.1 in
    (c.count-s.ensures ∙ ap sample_of e, m.1, c.scatter.ensures ∙ ap (λ (x : List WindowStats). laid_in x a.floats.now) e)
