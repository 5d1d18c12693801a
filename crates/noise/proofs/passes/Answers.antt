-- `passes` meets its contract: the first pass decides, or the second does.
use mathlib.Core.Path.{sym}
use native.Mathlib.Omega.{arith}
use Rattle.grid.specs.Needed.{first_w, second_w}
use Rattle.measure.specs.Figures.{figures_of}
use Rattle.noise.proofs.Passing.{runs_first, runs_second, runs_one, above_one, one_ints, two_ints, one_floats, two_floats, by_first, by_second, few_rounds}
use Rattle.noise.proofs.passes.Goals as goal

pub run-first-requires : goal.run-first-requires
run-first-requires c = let g = c.first-grid.ensures in rw (g.0, g.1, g.2) (runs_first c.requires)

pub returns-then-first_decides : goal.returns-then-first_decides
returns-then-first_decides c =
    let r = c.requires in
    let g = c.first-grid.ensures in
    let p = rw (g.0, g.1, g.2) at c.run-first.ensures in
    let e = sym (rw (g.0, g.1, g.2) at c.if-first_decides.ensures) in
    let one = runs_one r c.run-first.result p.0 e in (
      by_first r c.run-first.result p.0 e c.ending_in.ensures,
      one_ints r p.1 one,
      one_floats r p.2 one,
    )

pub run-second-requires : goal.run-second-requires
run-second-requires c =
    let r = c.requires in
    let p = c.run-first in
    let g = c.first-grid.ensures in
    let d = c.dense-dense.ensures in
    let e = sym (rw (g.0, g.1, g.2) at c.if-first_decides.ensures) in
    rw (d.0, d.1, d.2) (runs_second r (above_one r p.result e) p.new.ints p.new.floats p.auto.ints p.auto.floats)

pub overflow_add-first : goal.overflow_add-first
overflow_add-first c =
    let a = c.args in
    let g = c.first-grid.ensures in
    let d = c.dense-dense.ensures in
    let p = rw (g.0, g.1, g.2) at c.run-first.ensures in
    let q = rw (d.0, d.1, d.2) at c.run-second.ensures in
    omega (arith, few_rounds (figures_of a.img.now a.w a.h first_w) (figures_of a.img.now a.w a.h second_w) c.run-first.result c.run-second.result p.0 q.0)

pub returns : goal.returns
returns c =
    let r = c.requires in
    let g = c.first-grid.ensures in
    let d = c.dense-dense.ensures in
    let p = rw (g.0, g.1, g.2) at c.run-first.ensures in
    let q = rw (d.0, d.1, d.2) at c.run-second.ensures in
    let e = sym (rw (g.0, g.1, g.2) at c.if-first_decides.ensures) in
    let two = runs_one r c.run-first.result p.0 e in (
      by_second r c.run-first.result p.0 c.run-second.result q.0 e c.ending_in-2.ensures,
      two_ints r p.1 two q.1,
      two_floats r p.2 two q.2,
    )
