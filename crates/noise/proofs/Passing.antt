-- The passes of a call that nothing refuses: each has room, what lies beyond M windows is as it was, and the one that decides gives
-- the answer.
use mathlib.Core.Path.{◌≡◌, refl, sym, ap, ◌∙◌}
use mathlib.Core.Bool.{Bool, true, false, cond, ◌||◌}
use mathlib.Core.List.{List, ◌++◌}
use Prim.Native.Nat.{ℕ, ◌+◌, ◌*◌, ◌≤◌}
use native.Mathlib.Omega.{arith}
use lib.Dec.{eqb}
use lib.ListN.{length, drop, replicate}
use borrow.Author.Tests.{eq-eqb}
use Rattle.std.specs.Prelude.{is_ok}
use lib.IntN.{ℤ, pos}
use lib.Ieee.{Float}
use Rattle.ieee.specs.Numbers.{plus_zero}
use Rattle.laws.proofs.Choice.{chosen, passed}
use Rattle.window.specs.declared.WindowStats.{WindowStats}
use Rattle.grid.specs.Step.{step_of}
use Rattle.grid.specs.Grid.{total_of}
use Rattle.grid.specs.Needed.{first_w, second_w}
use Rattle.grid.proofs.Memory.{first_fits, second_fits}
use Rattle.measure.specs.Figures.{figures_of}
use Rattle.measure.specs.Columns.{columns_in}
use Rattle.band.proofs.Counting.{kept_most}
use Rattle.sample.specs.Laid.{laid_in, Collectable}
use Rattle.sample.proofs.Parts.{figures_long, columns_beyond, laid_long, laid_beyond}
use Rattle.answer.specs.declared.Answer.{Answer}
use Rattle.pass.specs.declared.Pass.{Pass}
use Rattle.pass.specs.Pass.{pass_of}
use Rattle.pass.specs.Memory.{ints_for, floats_for}
use Rattle.pass.proofs.Bounds.{rounds_most}
use Rattle.noise.specs.Answers.{ending_in, first_decides, decided}
use Rattle.noise.specs.Call.{measured, one_runs, cleared_ints, cleared_floats}
use Rattle.noise.specs.Steps.{Ready, work_ints, work_floats}
use Rattle.noise.proofs.Causes.{contrary}

or_true : (a b : Bool) → b ≡ true → (a || b) ≡ true
or_true true b e = refl
or_true false b e = e

module _ {img : List ℕ} {w h m : ℕ} {ints : List ℤ} {floats : List Float} (r : Ready img w h m ints floats) where
  abbrev first : List WindowStats
  first = figures_of img w h first_w

  abbrev second : List WindowStats
  second = figures_of img w h second_w

  abbrev s : ℕ
  s = step_of (w * h) first_w

  first_in : total_of w h first_w ≤ m
  first_in = rw r.windows (first_fits w h)

  -- a step of 1 leaves the first pass the only one
  pub above_one : (p : Pass) → first_decides s p ≡ false → s ≡ 1 → ⊥
  above_one p e o = contrary (sym (or_true (is_ok p.sigma) (eqb s 1) (eq-eqb s 1 o)) ∙ e)

  second_in : (s ≡ 1 → ⊥) → total_of w h second_w ≤ m
  second_in n = rw r.windows (second_fits w h n)

  -- what a pass asks for, at any slices of these lengths
  runs : (windows : ℕ) → total_of w h windows ≤ m → (i : List ℤ) (f : List Float) → length i ≡ length ints → length f ≡ length floats → Collectable img w h windows i f
  runs windows t i f e g =
      record { measurable = record { pixels = r.pixels; columns = omega (arith, r.room_ints) }; room = omega (arith, r.room_floats) }

  pub runs_first : Collectable img w h first_w ints floats
  runs_first = runs first_w first_in ints floats refl refl

  pub runs_second : (s ≡ 1 → ⊥) → (i : List ℤ) (f : List Float) → length i ≡ length ints → length f ≡ length floats → Collectable img w h second_w i f
  runs_second n i f e g = runs second_w (second_in n) i f e g

  -- ---- what the passes leave: beyond M windows all is as it was

  first_few : length first ≤ m
  first_few = omega (arith, figures_long img w h first_w, first_in)

  second_few : (s ≡ 1 → ⊥) → length second ≤ m
  second_few n = omega (arith, figures_long img w h second_w, second_in n)

  ints_beyond : drop (ints_for m) (work_ints img w h ints) ≡ drop (ints_for m) ints
  unfolding work_ints
  ints_beyond = by_case (one_runs img w h) refl
    where
      by_case : (b : Bool) → one_runs img w h ≡ b → drop (ints_for m) (cond b (columns_in first ints) (columns_in second (columns_in first ints))) ≡ drop (ints_for m) ints
      by_case true e = columns_beyond first ints (ints_for m) (omega (arith, first_few))
      by_case false e =
          columns_beyond second (columns_in first ints) (ints_for m) (omega (arith, second_few (above_one (pass_of first) e)))
          ∙ columns_beyond first ints (ints_for m) (omega (arith, first_few))

  floats_beyond : drop (floats_for m) (work_floats img w h floats) ≡ drop (floats_for m) floats
  unfolding work_floats
  floats_beyond = by_case (one_runs img w h) refl
    where
      once : drop (floats_for m) (laid_in first floats) ≡ drop (floats_for m) floats
      once = laid_beyond first floats (floats_for m) (omega (arith, kept_most first, first_few, r.room_floats)) (omega (arith, kept_most first, first_few))

      by_case : (b : Bool) → one_runs img w h ≡ b → drop (floats_for m) (cond b (laid_in first floats) (laid_in second (laid_in first floats))) ≡ drop (floats_for m) floats
      by_case true e = once
      by_case false e =
          laid_beyond second (laid_in first floats) (floats_for m)
          (omega (arith, kept_most second, second_few (above_one (pass_of first) e), r.room_floats, laid_long first floats (omega (arith, kept_most first, first_few, r.room_floats))))
          (omega (arith, kept_most second, second_few (above_one (pass_of first) e)))
          ∙ once

  -- so clearing those leaves no trace of the passes
  pub cleared_ints_lem : {i j : List ℤ} → i ≡ work_ints img w h ints → j ≡ cleared_ints m i → j ≡ cleared_ints m ints
  cleared_ints_lem p q = q ∙ ap (λ (l : List ℤ). replicate (ints_for m) (pos 0) ++ l) (ap (drop (ints_for m)) p ∙ ints_beyond)

  pub cleared_floats_lem : {f g : List Float} → f ≡ work_floats img w h floats → g ≡ cleared_floats m f → g ≡ cleared_floats m floats
  cleared_floats_lem p q = q ∙ ap (λ (l : List Float). replicate (floats_for m) plus_zero ++ l) (ap (drop (floats_for m)) p ∙ floats_beyond)

  module _ {i : List ℤ} (p : i ≡ columns_in first ints) where
    pub one_ints : one_runs img w h ≡ true → i ≡ work_ints img w h ints
    unfolding work_ints
    one_ints e = p ∙ chosen (one_runs img w h) (columns_in first ints) (columns_in second (columns_in first ints)) e

    pub two_ints : one_runs img w h ≡ false → {j : List ℤ} → j ≡ columns_in second i → j ≡ work_ints img w h ints
    unfolding work_ints
    two_ints e q = q ∙ ap (columns_in second) p ∙ passed (one_runs img w h) (columns_in first ints) (columns_in second (columns_in first ints)) e

  module _ {f : List Float} (p : f ≡ laid_in first floats) where
    pub one_floats : one_runs img w h ≡ true → f ≡ work_floats img w h floats
    unfolding work_floats
    one_floats e = p ∙ chosen (one_runs img w h) (laid_in first floats) (laid_in second (laid_in first floats)) e

    pub two_floats : one_runs img w h ≡ false → {g : List Float} → g ≡ laid_in second f → g ≡ work_floats img w h floats
    unfolding work_floats
    two_floats e q = q ∙ ap (laid_in second) p ∙ passed (one_runs img w h) (laid_in first floats) (laid_in second (laid_in first floats)) e

  -- ---- which pass decides and the answer, p being what the first gave
  module _ (p : Pass) (is : p ≡ pass_of first) where
    pub runs_one : {b : Bool} → first_decides s p ≡ b → one_runs img w h ≡ b
    runs_one e = ap (first_decides s) (sym is) ∙ e

    pub by_first : {a : Answer} → first_decides s p ≡ true → a ≡ ending_in p p.rounds 1 → a ≡ measured img w h
    unfolding measured decided
    by_first e f =
        f ∙ ap (λ (x : Pass). ending_in x x.rounds 1) is
        ∙ chosen (one_runs img w h) (ending_in (pass_of first) (pass_of first).rounds 1)
        (ending_in (pass_of second) ((pass_of first).rounds + (pass_of second).rounds) 2) (runs_one e)

    pub by_second : {a : Answer} (q : Pass) → q ≡ pass_of second → first_decides s p ≡ false → a ≡ ending_in q (p.rounds + q.rounds) 2 → a ≡ measured img w h
    unfolding measured decided
    by_second q f e g =
        g ∙ ap (λ (x : Pass). ending_in q (x.rounds + q.rounds) 2) is ∙ ap (λ (x : Pass). ending_in x ((pass_of first).rounds + x.rounds) 2) f
        ∙ passed (one_runs img w h) (ending_in (pass_of first) (pass_of first).rounds 1)
        (ending_in (pass_of second) ((pass_of first).rounds + (pass_of second).rounds) 2) (runs_one e)

-- rounds of two passes
pub few_rounds : (fs gs : List WindowStats) (p q : Pass) → p ≡ pass_of fs → q ≡ pass_of gs → p.rounds + q.rounds ≤ 120
few_rounds fs gs p q e f = omega (arith, ap (λ (x : Pass). x.rounds) e, ap (λ (x : Pass). x.rounds) f, rounds_most fs, rounds_most gs)
