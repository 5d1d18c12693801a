-- A row below h and a column below w stand inside w * h pixels. Each return rewrites by the tests on the way.
use Rattle.std.proofs.Common.{◌≡◌, ℕ, ◌+◌, ◌*◌, ◌-◌, ◌<◌, ℤ, pos, refl, ◌∙◌, w32, arith, rules}
use borrow.Author.Tests.{eq-eqb, ne_eqb}
use lib.Ieee.{binary32, of_bits, of_int}
use lib.ListN.{get_or}
use mir.Val.{SFits}
use Rattle.std.proofs.lemmas.Int.{to_z-of_z}
use Rattle.imageview.specs.Sample.{clamped, pixel}
use Rattle.imageview.proofs.Nearest.{clamped_most, in_image}
use Rattle.imageview.proofs.sample_at.Goals as goal
use Rattle.imageview.proofs.sample_at.Goals.{then-width-eq0-via-then-width-eq0, then-width-eq0-via-else-width-eq0+then-height-eq0}

nought : of_bits binary32 0 ≡ of_int binary32 (pos 0)
unfolding of_bits of_int
nought = refl

pub returns-then-width-eq0 : goal.returns-then-width-eq0
unfolding pixel
returns-then-width-eq0 c =
    let s = c.args in
    nought
    ∙ elim c.then-width-eq0.branch [
      | then-width-eq0-via-then-width-eq0 w ↦ rw (eq-eqb s.width 0 w.if-width-eq0.true) refl
      | then-width-eq0-via-else-width-eq0+then-height-eq0 w ↦ rw (ne_eqb s.width 0 w.if-width-eq0.false, eq-eqb s.height 0 w.if-height-eq0.true) refl
    ]

-- the place ly * w + lx, where both are clamped
placed : (w h x y : ℕ) (p q : ℤ) → (w ≡ 0 → ⊥) → (h ≡ 0 → ⊥) → x ≡ clamped p (w - 1) → y ≡ clamped q (h - 1) → y * w + x < w * h
placed w h x y p q a b e f = in_image w h x y a b (omega (arith, e, clamped_most p (w - 1))) (omega (arith, f, clamped_most q (h - 1)))

pub overflow_mul-at : goal.overflow_mul-at
overflow_mul-at c = let f = placed _ _ _ _ _ _ c.if-width-eq0.false c.if-height-eq0.false c.place-lx.ensures c.place-ly.ensures in omega arith

pub overflow_add-at : goal.overflow_add-at
overflow_add-at c = let f = placed _ _ _ _ _ _ c.if-width-eq0.false c.if-height-eq0.false c.place-lx.ensures c.place-ly.ensures in omega arith

pub bounds-pixels-at : goal.bounds-pixels-at
bounds-pixels-at c = let f = placed _ _ _ _ _ _ c.if-width-eq0.false c.if-height-eq0.false c.place-lx.ensures c.place-ly.ensures in omega arith

pub returns : goal.returns
unfolding pixel
returns c =
    let s = c.args in
    let fx : SFits w32 c.args.x = c.ranges.x in
    let fy : SFits w32 c.args.y = c.ranges.y in
    let f0 : SFits w32 (get_or s.origin 0 (pos 0)) = search rules in
    let f1 : SFits w32 (get_or s.origin 1 (pos 0)) = search rules in
    let a = simp to_z-of_z at c.place-lx.ensures in
    let b = simp to_z-of_z at c.place-ly.ensures in
    rw (ne_eqb s.width 0 c.if-width-eq0.false, ne_eqb s.height 0 c.if-height-eq0.false) (rw (← a, ← b) c.from.ensures)
