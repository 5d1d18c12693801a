use Rattle.std.proofs.Common.{◌≡◌, ℕ, ◌+◌, ◌-◌, ◌*◌, ◌<◌, ◌≤◌, ◌==◌, true, false, to_z, of_z, mul-zero, zero-mul, length, get_or, ℤ, pos, Ok, refl, sym, ap, ◌∙◌, subst, w32, arith, rules}
use Rattle.std.specs.Result.{result_map_both}
use Rattle.std.proofs.lemmas.Int.{to_z-of_z}
use Rattle.std.proofs.Math.IntN.{nat_abs}
use borrow.Author.Tests.{eqb-true, eqb-false}
use lib.Ieee.{Float}
use mathlib.Core.List.{List}
use mir.Val.{SFits}
use Rattle.laws.specs.Lists.{from, laid}
use Rattle.disk.specs.Rows.{in_rows}
use Rattle.tile.specs.Refusal.{refusal}
use Rattle.tile.specs.Tile.{tile, ByteSamples, loaded}
use Rattle.tile.proofs.Refusals.{none_long, none_near}
use Rattle.laws.proofs.Fill.{rows_start}
use Rattle.tile.proofs.Bytes.{zero_bytes}
use Rattle.tile.proofs.Loading.{near, picked, run_is, row_laid, no_pixel, within, tile_is}
use Rattle.tile.proofs.PixelTile.load_at.Goals as goal
use Rattle.tile.proofs.PixelTile.load_at.Goals.{After-nearby-rows, then-last-first, else-last-first}

-- the columns and the rows of the tile, by the centre and the origin
columns_are : (c : After-nearby-rows) → c.nearby-columns.result ≡ from (near (get_or c.args.centre 0 (pos 0)) (get_or c.args.origin 0 (pos 0)) (c.args.width - 1)) 0 17
columns_are c =
    let f : SFits w32 (get_or c.args.centre 0 (pos 0)) = search rules in
    let g : SFits w32 (get_or c.args.origin 0 (pos 0)) = search rules in
    simp to_z-of_z at c.nearby-columns.ensures

rows_are : (c : After-nearby-rows) → c.nearby-rows.result ≡ from (near (get_or c.args.centre 1 (pos 0)) (get_or c.args.origin 1 (pos 0)) (c.args.height - 1)) 0 17
rows_are c =
    let f : SFits w32 (get_or c.args.centre 1 (pos 0)) = search rules in
    let g : SFits w32 (get_or c.args.origin 1 (pos 0)) = search rules in
    simp to_z-of_z at c.nearby-rows.ensures

-- the centre as it is passed on
near_enough : (z : ℤ) → SFits w32 z → nat_abs z ≤ 1000000 → nat_abs (to_z w32 (of_z w32 z)) ≤ 1000000
near_enough z f h = simp to_z-of_z h

pub nearby-columns-requires : goal.nearby-columns-requires
nearby-columns-requires c =
    let s = c.args in
    near_enough (get_or s.centre 0 (pos 0)) (search rules) (none_near (length s.pixels.now) s.width s.height s.origin s.centre c.in_ok-judge.ensures).0

pub nearby-rows-requires : goal.nearby-rows-requires
nearby-rows-requires c =
    let s = c.args in
    near_enough (get_or s.centre 1 (pos 0)) (search rules) (none_near (length s.pixels.now) s.width s.height s.origin s.centre c.in_ok-judge.ensures).1

-- an image with a pixel has both sides
sides : {n : ℕ} (w h : ℕ) → n ≡ w * h → false ≡ (n == 0) → (w ≡ 0 → ⊥) × (h ≡ 0 → ⊥)
sides {n} w h e f = let k = eqb-false n 0 (sym f) in (λ z. k (e ∙ rw z (zero-mul h)), λ z. k (e ∙ rw z (mul-zero w)))

pub overflow_sub-width : goal.overflow_sub-width
overflow_sub-width c =
    let s = c.args in
    omega (arith, sides s.width s.height (none_long (length s.pixels.now) s.width s.height s.origin s.centre c.in_ok-judge.ensures) c.if-is_empty.ensures)

pub overflow_sub-height : goal.overflow_sub-height
overflow_sub-height c =
    let s = c.args in
    omega (arith, sides s.width s.height (none_long (length s.pixels.now) s.width s.height s.origin s.centre c.in_ok-judge.ensures) c.if-is_empty.ensures)

-- a place in one of the rows and one of the columns is a pixel
inside : (c : After-nearby-rows) (j i : ℕ) → j < 17 → i < 17 → get_or c.nearby-rows.result j 0 * c.args.width + get_or c.nearby-columns.result i 0 < length c.args.pixels.now
inside c j i a b =
    let s = c.args in
    let long = none_long (length s.pixels.now) s.width s.height s.origin s.centre c.in_ok-judge.ensures in
    let both = sides s.width s.height long c.if-is_empty.ensures in
    rw long (within s.pixels.now s.width s.height s.origin s.centre c.nearby-columns.result c.nearby-rows.result (columns_are c) (rows_are c) both.0 both.1 j i a b)

pub overflow_mul-start : goal.overflow_mul-start
overflow_mul-start c = omega (arith, inside (goal.at.overflow_mul-start c).After-nearby-rows c.loop-j.j 0 c.loop-j-test.true (omega arith))

pub overflow_add-first : goal.overflow_add-first
overflow_add-first c = omega (arith, inside (goal.at.overflow_add-first c).After-nearby-rows c.loop-j.j 0 c.loop-j-test.true (omega arith))

pub overflow_add-at : goal.overflow_add-at
overflow_add-at c = omega (arith, inside (goal.at.overflow_add-at c).After-nearby-rows c.loop-j.j 0 c.loop-j-test.true (omega arith))

pub lay-requires-clause-callable : goal.lay-requires-clause-callable
lay-requires-clause-callable c =
    let p = inside (goal.at.lay-requires-clause-callable c).After-nearby-rows c.loop-j.j 16 c.loop-j-test.true (omega arith) in
    λ i h. search (rules, p, c.if-last-first.true)

pub lay-requires-else-last-first-clause-callable : goal.lay-requires-else-last-first-clause-callable
lay-requires-else-last-first-clause-callable c =
    λ i h. let p = inside (goal.at.lay-requires-else-last-first-clause-callable c).After-nearby-rows c.loop-j.j i c.loop-j-test.true h in search rules

-- an image without a pixel
empty : {n : ℕ} (w h : ℕ) → n ≡ w * h → true ≡ (n == 0) → w * h ≡ 0
empty {n} w h e f = sym e ∙ eqb-true n 0 (sym f)

-- the samples as the answer
answered : (l : List ℕ) (w h : ℕ) (origin centre : List ℤ) → Ok tt ≡ refusal (length l) w h origin centre → (samples : List Float) → samples ≡ in_rows (tile l w h origin centre) 289 → Ok samples ≡ loaded l w h origin centre
unfolding loaded
answered l w h origin centre e samples s = ap Ok s ∙ ap (result_map_both (λ _. in_rows (tile l w h origin centre) 289) (λ why. why)) e

pub invariant_of-result : goal.invariant_of-result
invariant_of-result c = record { bytes = zero_bytes }

pub returns-then-is_empty : goal.returns-then-is_empty
returns-then-is_empty c =
    let s = c.args in
    let z = empty s.width s.height (none_long (length s.pixels.now) s.width s.height s.origin s.centre c.in_ok-judge.ensures) c.if-is_empty.ensures in
    answered s.pixels.now s.width s.height s.origin s.centre c.in_ok-judge.ensures _ (no_pixel s.pixels.now s.width s.height s.origin s.centre z)

pub loop-j-init : goal.loop-j-init
loop-j-init c = record { bytes = zero_bytes; rows = rows_start }

pub loop-j-preserved : goal.loop-j-preserved
loop-j-preserved c =
    let s = c.args in
    let xs = c.nearby-columns.result in
    let ys = c.nearby-rows.result in
    let a = (goal.at.loop-j-preserved c).After-nearby-rows in
    let i = c.loop-j.invariant in
    let both = sides s.width s.height (none_long (length s.pixels.now) s.width s.height s.origin s.centre c.in_ok-judge.ensures) c.if-is_empty.ensures in
    elim c.if-last-first.branch [
      | then-last-first w ↦ record {
        bytes = subst ByteSamples (sym w.samples-is) (w.lay.ensures.bytes i.bytes);
        rows = row_laid s.pixels.now s.width xs ys _ refl i.rows c.loop-j-test.true
            (w.samples-is ∙ w.lay.ensures.row (λ i. get_or s.pixels.now (get_or ys c.loop-j.j 0 * s.width + get_or xs 0 0 + i) 0) (λ i r h k. search rules)
            ∙ ap (laid c.loop-j.samples (c.loop-j.j * 17)) (run_is s.pixels.now s.width s.height s.origin s.centre xs ys (columns_are a) (rows_are a) both.0 both.1 w.if-last-first.true c.loop-j.j));
      }
      | else-last-first w ↦ record {
        bytes = subst ByteSamples (sym w.samples-is) (w.lay-else-last-first.ensures.bytes i.bytes);
        rows = row_laid s.pixels.now s.width xs ys _ refl i.rows c.loop-j-test.true
            (w.samples-is ∙ w.lay-else-last-first.ensures.row (picked s.pixels.now (get_or ys c.loop-j.j 0 * s.width) xs) (λ i r h k. search rules));
      }
    ]

pub returns : goal.returns
returns c =
    let s = c.args in
    let a = (goal.at.returns c).After-nearby-rows in
    let both = sides s.width s.height (none_long (length s.pixels.now) s.width s.height s.origin s.centre c.in_ok-judge.ensures) c.if-is_empty.ensures in
    answered s.pixels.now s.width s.height s.origin s.centre c.in_ok-judge.ensures _
    (tile_is s.pixels.now s.width s.height s.origin s.centre c.nearby-columns.result c.nearby-rows.result (columns_are a) (rows_are a) both.0 both.1 refl c.loop-j.invariant.rows c.loop-j-test.false)
