use mathlib.Core.Path.{◌∙◌}
use Prim.Native.Nat.{◌/◌, ◌%◌}
use native.Mathlib.Omega.{arith}
use Rattle.laws.proofs.Fill.{tab_put, tab_end}
use Rattle.disk.specs.Rows.{read}
use Rattle.disk.specs.Disk.{disk}
use Rattle.disk.specs.Gradients.{squared_at}
use Rattle.disk.proofs.Places.{spot, disk_long, squared_at_lem}
use Rattle.levels.proofs.Folds.{from_map}
use Rattle.disk.proofs.gradients.Goals as goal

pub bounds-smooth-i : goal.bounds-smooth-i
bounds-smooth-i c = omega (arith, spot _ _ c.loop-m-test.true c.from-i.ensures)

pub overflow_sub-gx : goal.overflow_sub-gx
overflow_sub-gx c = omega (arith, spot _ _ c.loop-m-test.true c.from-i.ensures)

pub bounds-smooth-i-in-loop-m : goal.bounds-smooth-i-in-loop-m
bounds-smooth-i-in-loop-m c = omega (arith, spot _ _ c.loop-m-test.true c.from-i.ensures)

pub bounds-smooth-i-in-loop-m-2 : goal.bounds-smooth-i-in-loop-m-2
bounds-smooth-i-in-loop-m-2 c = omega (arith, spot _ _ c.loop-m-test.true c.from-i.ensures)

pub overflow_sub-gy : goal.overflow_sub-gy
overflow_sub-gy c = omega (arith, spot _ _ c.loop-m-test.true c.from-i.ensures)

pub bounds-smooth-i-in-loop-m-3 : goal.bounds-smooth-i-in-loop-m-3
bounds-smooth-i-in-loop-m-3 c = omega (arith, spot _ _ c.loop-m-test.true c.from-i.ensures)

pub loop-m-preserved : goal.loop-m-preserved
loop-m-preserved c =
    tab_put c.loop-m.invariant c.loop-m-test.true (squared_at_lem c.args.smooth.now c.from-i.result c.loop-m.m c.loop-m-test.true (spot _ _ c.loop-m-test.true c.from-i.ensures).is)

pub returns : goal.returns
returns c = tab_end c.loop-m.invariant c.loop-m-test.false ∙ from_map (λ k. squared_at (read c.args.smooth.now) (k / 17) (k % 17)) 0 disk 81 disk_long
