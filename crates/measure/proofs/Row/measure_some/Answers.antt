use Rattle.std.proofs.Common.{rules}
use Rattle.laws.proofs.Machine.{held_of}
use mathlib.Core.Path.{sym, ap, ◌∙◌, subst}
use mathlib.Core.List.{List}
use Prim.Native.Nat.{ℕ, ◌+◌, ◌*◌, ◌≤◌, ◌<◌}
use native.Mathlib.Omega.{arith}
use lib.ListN.{length, replicate}
use lib.IntN.{ℤ}
use Rattle.laws.proofs.Fill.{Row, row_put, row_end}
use Rattle.measure.specs.Columns.{column_count, field}
use Rattle.measure.specs.Loops.{column, figure_of_words}
use Rattle.measure.proofs.Columns.{column_long, stored}
use Rattle.measure.proofs.Gathered.{figures}
use Rattle.measure.proofs.Filling.{filled_same}
use Rattle.measure.proofs.Row.measure_some.Goals as goal

room : (t m : ℕ) (l : List ℤ) → m ≤ t → column_count * t ≤ length l → (c : ℕ) → c < column_count → m ≤ length (column t c l)
room t m l r f c h = omega (arith, column_long t c l h f)

pub loop-k-preserved : goal.loop-k-preserved
loop-k-preserved c =
    let a = c.args in
    let i = c.loop-k.invariant in
    let k = c.loop-k-test.true in
    let e = stored a.t (a.to + c.loop-k.k) c.loop-k.ints c.packed-f.result (omega (arith, k, c.requires.1)) (held_of (search rules)) (held_of (search rules)) (held_of (search rules)) in
    record {
      each = λ j g. subst (λ (l : List ℤ).
          Row (λ i. field j (figure_of_words c.gather.new.words c.gather-2.new.words c.gather-3.new.words c.gather-4.new.words i)) (column a.t j a.ints.now) a.to a.self.n (c.loop-k.k + 1) l)
          (sym (e.each j g))
          (row_put (i.each j g) k (room a.t (a.to + a.self.n) a.ints.now c.requires.1 c.requires.2 j g)
          (ap (field j) c.packed-f.ensures));
      beyond = e.beyond ∙ i.beyond;
      long = e.long ∙ i.long;
    }

pub returns : goal.returns
returns c =
    let r = c.args.self in
    let i = c.loop-k.invariant in
    filled_same
    (figures r.img.now (λ i. record { fits = r.bytes i }) r.w r.at r.s r.n (replicate 32 0) c.gather.ensures c.gather-2.ensures c.gather-3.ensures c.gather-4.ensures)
    (record { each = λ j h. row_end (i.each j h) c.loop-k-test.false; beyond = i.beyond; long = i.long })
