use mathlib.Core.Path.{◌≡◌, sym, ap, subst}
use Prim.Native.Nat.{ℕ, ◌-◌, ◌*◌, ◌≤◌}
use native.Mathlib.Omega.{arith}
use lib.ListN.{length}
use Rattle.laws.specs.Lists.{joined}
use Rattle.grid.specs.Step.{step_of}
use Rattle.grid.specs.Grid.{row_of, rows_of}
use Rattle.grid.proofs.Steps.{few, step_is, step_most}
use Rattle.grid.proofs.Counts.{count_most}
use Rattle.grid.proofs.Places.{total_more, total_by_lem, total_most}
use Rattle.grid.proofs.Grid.window_count.Goals as goal

-- the step is 1 or more
some : (w h windows s : ℕ) → 1 ≤ windows → s ≡ step_of (w * h) windows → 1 ≤ s
some w h windows s p e = subst (λ (n : ℕ). 1 ≤ n) (sym e) (step_is (w * h) windows p).some

-- there are no more rows than h
short : (h m s : ℕ) → 1 ≤ s → m ≡ rows_of h s → m ≤ h
short h m s p e = omega (arith, count_most 0 s (h - 3) p)

whole : (n : ℕ) → n - 0 ≡ n
whole n = omega arith

pub rows-j-end-requires : goal.rows-j-end-requires
rows-j-end-requires c =
    let g = c.args.self in
    (g.sides.high, some g.w g.h g.windows _ g.some c.step-s.ensures)

pub loop-j-init : goal.loop-j-init
loop-j-init c =
    let g = c.args.self in
    omega (
      arith,
      ap (λ (n : ℕ). length (joined (row_of g.w c.step-s.result) 0 n)) (whole c.rows-j-end.result),
      total_by_lem g.w g.h g.windows _ _ c.step-s.ensures c.rows-j-end.ensures,
    )

pub row_count-t-requires : goal.row_count-t-requires
row_count-t-requires c =
    let g = c.args.self in
    let s = some g.w g.h g.windows _ g.some c.step-s.ensures in (
      g.sides.wide,
      s,
      omega (arith, c.loop-j-test.true, short g.h _ _ s c.rows-j-end.ensures, g.sides.h_most),
      omega (arith, c.step-s.ensures, step_most g.w g.h g.windows g.sides g.some),
    )

pub overflow_add-t : goal.overflow_add-t
overflow_add-t c =
    let g = c.args.self in
    omega (
      arith,
      c.loop-j.invariant,
      c.row_count-t.ensures,
      total_more g.w c.step-s.result c.rows-j-end.result c.loop-j.j c.loop-j-test.true,
      total_most g.w g.h g.windows g.some,
      few g.w g.h g.sides,
    )

pub loop-j-preserved : goal.loop-j-preserved
loop-j-preserved c =
    omega (
      arith,
      c.loop-j.invariant,
      c.row_count-t.ensures,
      total_more c.args.self.w c.step-s.result c.rows-j-end.result c.loop-j.j c.loop-j-test.true,
    )
