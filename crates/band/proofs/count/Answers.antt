use Rattle.std.proofs.Common.{rules, Option, Some, None, get_or-take}
use Rattle.std.specs.Prelude.{unwrap_or}
use mathlib.Core.Path.{◌≡◌, refl, ap, ◌∙◌}
use mathlib.Core.Bool.{Bool, true, false, cond}
use mathlib.Core.List.{List}
use Prim.Native.Nat.{ℕ, ◌+◌, ◌≤◌, ◌<◌}
use native.Mathlib.Omega.{arith}
use borrow.Author.Tests.{ltb-false}
use lib.Dec.{eqb, ltb}
use lib.IntN.{ℤ, pos}
use lib.ListN.{length, get_or, length-take, take}
use mir.Val.{bool_byte}
use Rattle.laws.proofs.Machine.{held, held_of}
use Rattle.window.specs.declared.WindowStats.{WindowStats}
use Rattle.measure.specs.Columns.{figures_in}
use Rattle.band.specs.Bands.{rail, band_of, kept_band, count_of, sample_of}
use Rattle.band.proofs.Counting.{Counted, band_most, count_start, count_turn, count_end, count_low}
use Rattle.band.proofs.count.Goals as goal

counts : (fs : List WindowStats) {a b c d e : ℕ} → a ≡ count_of 0 fs → b ≡ count_of 1 fs → c ≡ count_of 2 fs → d ≡ count_of 3 fs → e ≡ count_of rail fs
    → record { b0 = a; b1 = b; b2 = c; b3 = d; rail = e } ≡ sample_of fs
unfolding sample_of
counts fs p q r s t = rw (p, q, r, s, t) refl

-- what `band` says of a window, or the fifth band
told : (x : ℕ) → x ≤ rail → unwrap_or (kept_band x) rail ≡ x
told x h = go (ltb x rail) refl
  where
    go : (u : Bool) → ltb x rail ≡ u → unwrap_or (cond u (Some x) None) rail ≡ x
    go true f = refl
    go false f = omega (arith, h, ltb-false x rail f)

-- the band of window k, by its sum
seen : (l : List ℤ) (t k : ℕ) {b : ℕ} {o : Option ℕ} → b ≡ unwrap_or o rail → o ≡ kept_band (band_of (held (get_or (take t l) k (pos 0))))
    → held (get_or (take t l) k (pos 0)) ≡ get_or (take t l) k (pos 0) → k < length (take t l)
    → (k < t) × (b ≡ band_of (get_or l k (pos 0)))
seen l t k d e f h =
    let g : k < t = omega (arith, h, length-take t l) in (
      g,
      d ∙ ap (λ (u : Option ℕ). unwrap_or u rail) e ∙ told _ (band_most (held (get_or (take t l) k (pos 0))))
          ∙ ap band_of (f ∙ get_or-take t l k (pos 0) g),
    )

turn : {t n k : ℕ} {l : List ℤ} {x : ℕ} (b : ℕ) {r : ℕ} → Counted b t l n k
    → (k < t) × (x ≡ band_of (get_or l k (pos 0))) → r ≡ bool_byte (eqb x b) → Counted b t l (n + r) (k + 1)
turn b {r} i s q = count_turn r i s.0 (q ∙ ap (λ (x : ℕ). bool_byte (eqb x b)) s.1)

pub loop-sum-init : goal.loop-sum-init
loop-sum-init c = record { c0 = count_start; c1 = count_start; c2 = count_start; c3 = count_start; cr = count_start }

pub overflow_add-b0 : goal.overflow_add-b0
overflow_add-b0 c =
    let s = seen c.args.ints.now c.args.t c.loop-sum.sum-index c.unwrap_or-b.ensures c.band.ensures (held_of (search rules)) c.loop-sum-test.true in
    omega (arith, count_low (turn 0 c.loop-sum.invariant.c0 s c.from-b0.ensures))

pub overflow_add-b1 : goal.overflow_add-b1
overflow_add-b1 c =
    let s = seen c.args.ints.now c.args.t c.loop-sum.sum-index c.unwrap_or-b.ensures c.band.ensures (held_of (search rules)) c.loop-sum-test.true in
    omega (arith, count_low (turn 1 c.loop-sum.invariant.c1 s c.from-b1.ensures))

pub overflow_add-b2 : goal.overflow_add-b2
overflow_add-b2 c =
    let s = seen c.args.ints.now c.args.t c.loop-sum.sum-index c.unwrap_or-b.ensures c.band.ensures (held_of (search rules)) c.loop-sum-test.true in
    omega (arith, count_low (turn 2 c.loop-sum.invariant.c2 s c.from-b2.ensures))

pub overflow_add-b3 : goal.overflow_add-b3
overflow_add-b3 c =
    let s = seen c.args.ints.now c.args.t c.loop-sum.sum-index c.unwrap_or-b.ensures c.band.ensures (held_of (search rules)) c.loop-sum-test.true in
    omega (arith, count_low (turn 3 c.loop-sum.invariant.c3 s c.from-b3.ensures))

pub overflow_add-rail : goal.overflow_add-rail
overflow_add-rail c =
    let s = seen c.args.ints.now c.args.t c.loop-sum.sum-index c.unwrap_or-b.ensures c.band.ensures (held_of (search rules)) c.loop-sum-test.true in
    omega (arith, count_low (turn rail c.loop-sum.invariant.cr s c.from-rail.ensures))

pub loop-sum-preserved : goal.loop-sum-preserved
loop-sum-preserved c =
    let i = c.loop-sum.invariant in
    let s = seen c.args.ints.now c.args.t c.loop-sum.sum-index c.unwrap_or-b.ensures c.band.ensures (held_of (search rules)) c.loop-sum-test.true in
    record {
      c0 = turn 0 i.c0 s c.from-b0.ensures;
      c1 = turn 1 i.c1 s c.from-b1.ensures;
      c2 = turn 2 i.c2 s c.from-b2.ensures;
      c3 = turn 3 i.c3 s c.from-b3.ensures;
      cr = turn rail i.cr s c.from-rail.ensures;
    }

pub returns : goal.returns
returns c =
    let i = c.loop-sum.invariant in
    let e : c.args.t ≤ c.loop-sum.sum-index = omega (arith, c.loop-sum-test.false, length-take c.args.t c.args.ints.now, c.requires) in
    counts (figures_in c.args.t c.args.ints.now) (count_end i.c0 e) (count_end i.c1 e) (count_end i.c2 e) (count_end i.c3 e) (count_end i.cr e)
