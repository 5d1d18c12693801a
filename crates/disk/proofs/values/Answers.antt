use Rattle.std.proofs.Common.{ℕ, ◌/◌, ◌%◌, ap, ◌∙◌, arith}
use Rattle.laws.proofs.Fill.{tab_put, tab_end}
use Rattle.disk.specs.Rows.{read}
use Rattle.disk.specs.Disk.{disk}
use Rattle.disk.proofs.Rows.{here}
use Rattle.disk.proofs.Places.{spot, disk_long}
use Rattle.levels.proofs.Folds.{from_map}
use Rattle.disk.proofs.values.Goals as goal

pub bounds-smooth-from : goal.bounds-smooth-from
bounds-smooth-from c = omega (arith, spot _ _ c.loop-m-test.true c.from.ensures)

pub loop-m-preserved : goal.loop-m-preserved
loop-m-preserved c =
    let l = c.args.smooth.now in
    tab_put c.loop-m.invariant c.loop-m-test.true
    (here l c.from.result ∙ ap (λ (i : ℕ). read l (i / 17) (i % 17)) (spot _ _ c.loop-m-test.true c.from.ensures).is)

pub returns : goal.returns
returns c = tab_end c.loop-m.invariant c.loop-m-test.false ∙ from_map (λ k. read c.args.smooth.now (k / 17) (k % 17)) 0 disk 81 disk_long
