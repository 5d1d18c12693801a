-- `run` meets its contract: the slices are as the figures were collected, and the rounds find in the f32 slice what those say.
use Rattle.measure.specs.Figures.{figures_of}
use Rattle.sample.proofs.Parts.{figures_long}
use Rattle.pass.proofs.Bounds.{small}
use Rattle.pass.proofs.Collected.{roomy, noise_found, passed}
use Rattle.pass.proofs.run.Goals as goal

pub noise_in-n-requires : goal.noise_in-n-requires
noise_in-n-requires c =
    let a = c.args in
    let d = c.collect-s in
    roomy (figures_of a.img.now a.grid.w a.grid.h a.grid.windows) _ (figures_long a.img.now a.grid.w a.grid.h a.grid.windows) a.floats.now c.requires.room d.result d.ensures.0
    d.new.floats d.auto.floats d.ensures.2

pub pack-requires : goal.pack-requires
pack-requires c =
    let a = c.args in
    let d = c.collect-s in
    small a.img.now a.grid.w a.grid.h a.grid.windows a.grid.sides a.grid.some d.result c.noise_in-n.result d.ensures.0
    (noise_found (figures_of a.img.now a.grid.w a.grid.h a.grid.windows) _ (figures_long a.img.now a.grid.w a.grid.h a.grid.windows) a.floats.now c.requires.room d.result d.ensures.0
    d.new.floats d.auto.floats d.ensures.2 c.noise_in-n.result c.noise_in-n.ensures)

pub returns : goal.returns
returns c =
    let a = c.args in
    let d = c.collect-s in
    let fs = figures_of a.img.now a.grid.w a.grid.h a.grid.windows in
    let all = figures_long a.img.now a.grid.w a.grid.h a.grid.windows in
    let n = c.noise_in-n in (
      passed fs _ all a.floats.now c.requires.room d.result d.ensures.0 d.new.floats d.auto.floats d.ensures.2 n.result c.pack.result
          (noise_found fs _ all a.floats.now c.requires.room d.result d.ensures.0 d.new.floats d.auto.floats d.ensures.2 n.result n.ensures) c.pack.ensures,
      d.ensures.1,
      d.ensures.2,
    )
