use mathlib.Core.Path.{◌≡◌, sym, ap, subst}
use Prim.Native.Nat.{ℕ, ◌+◌, ◌*◌, ◌≤◌, ◌<◌}
use native.Mathlib.Omega.{arith}
use Rattle.grid.specs.Step.{step_of}
use Rattle.grid.specs.Grid.{rows_of, total_of}
use Rattle.grid.specs.declared.Grid.{Grid}
use Rattle.grid.proofs.Steps.{step_is}
use Rattle.measure.proofs.Measuring.{Pass, step_some, step_small, rows_few, begin, room, fits, turn, done}
use Rattle.measure.proofs.measure.Goals as goal

-- what the calls before the loop give
pass : {t s m : ℕ} (g : Grid) → t ≡ total_of g.w g.h g.windows → s ≡ step_of (g.w * g.h) g.windows → m ≡ rows_of g.h s → Pass g.w g.h g.windows t s m
pass g a b c = record { sides = g.sides; some = g.some; total = a; step = b; rows = c }

-- a row and the step are small
small : {w h windows t s m : ℕ} → Pass w h windows t s m → {j : ℕ} → j < m → (j < 16384) × (s ≤ 16384)
small p l = (omega (arith, rows_few p), step_small p)

pub rows-j-end-requires : goal.rows-j-end-requires
rows-j-end-requires c =
    let g = c.args.grid in
    (g.sides.high, subst (λ (n : ℕ). 1 ≤ n) (sym c.step-s.ensures) (step_is (g.w * g.h) g.windows g.some).some)

pub loop-j-init : goal.loop-j-init
loop-j-init c =
    let g = c.args.grid in
    begin c.args.img.now g.w g.h g.windows _ _ _ c.args.ints.now (pass g c.window_count-t.ensures c.step-s.ensures c.rows-j-end.ensures)

pub first_x-x-requires : goal.first_x-x-requires
first_x-x-requires c = omega (arith, small (pass c.args.grid c.window_count-t.ensures c.step-s.ensures c.rows-j-end.ensures) c.loop-j-test.true)

pub row_count-n-requires : goal.row_count-n-requires
row_count-n-requires c =
    let p = pass c.args.grid c.window_count-t.ensures c.step-s.ensures c.rows-j-end.ensures in
    let s = small p c.loop-j-test.true in
    (c.args.grid.sides.wide, step_some p, omega (arith, s), omega (arith, s))

pub invariant_of-row : goal.invariant_of-row
invariant_of-row c =
    let p = pass c.args.grid c.window_count-t.ensures c.step-s.ensures c.rows-j-end.ensures in
    record {
      inside = λ k h. omega (arith, c.first_x-x.ensures, fits c.loop-j.invariant p c.requires.pixels c.loop-j-test.true k (omega (arith, c.row_count-n.ensures, h)));
      bytes = λ i. (c.type_inv.img i).fits;
    }

pub measure-requires : goal.measure-requires
measure-requires c =
    let i = c.loop-j.invariant in (
      omega (arith, room i c.loop-j-test.true, c.row_count-n.ensures),
      omega (arith, i.long, c.window_count-t.ensures, c.requires.columns),
    )

pub loop-j-preserved : goal.loop-j-preserved
loop-j-preserved c =
    turn c.loop-j.invariant (omega (arith, c.window_count-t.ensures, c.requires.columns)) c.loop-j-test.true
    (ap (λ (x : ℕ). c.loop-j.j * c.step-s.result * c.args.grid.w + x) c.first_x-x.ensures) c.row_count-n.ensures c.measure.ensures

pub returns : goal.returns
returns c = (
  c.window_count-t.ensures,
  done c.loop-j.invariant (pass c.args.grid c.window_count-t.ensures c.step-s.ensures c.rows-j-end.ensures)
      (omega (arith, c.window_count-t.ensures, c.requires.columns)) c.loop-j-test.false,
)
