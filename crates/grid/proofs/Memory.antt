-- M holds either pass, and is no more than one of them asks for, and the sides that the sizing call takes are those of a pass. Assumes nothing.
use mathlib.Core.Path.{◌≡◌, refl, ap, ◌∙◌, subst}
use mathlib.Core.Bool.{Bool, true, false, cond}
use mathlib.Core.Logic.{◌↔◌}
use Prim.Native.Nat.{ℕ, ◌*◌, ◌≤◌, ◌<◌, max}
use native.Mathlib.Omega.{arith}
use borrow.Author.Tests.{ne_eqb, eqb-true, eqb-false, le-ltb}
use lib.Dec.{eqb}
use lib.ListN.{length}
use Rattle.laws.specs.Lists.{joined}
use Rattle.laws.proofs.Choice.{passed}
use Rattle.limits.specs.Limits.{too_large, too_small}
use Rattle.limits.proofs.Laws.{not_large, not_small}
use Rattle.grid.specs.Step.{step_of}
use Rattle.grid.specs.Grid.{Sides, row_of, rows_of, places_of, total_of}
use Rattle.grid.specs.Needed.{first_w, second_w, needed_of}
use Rattle.grid.proofs.Steps.{step_is, step_unique}

module _ (w h : ℕ) where
  pub needed_both : (step_of (w * h) first_w ≡ 1 → ⊥) → max (total_of w h first_w) (total_of w h second_w) ≡ needed_of w h
  unfolding needed_of
  needed_both n = passed (eqb (step_of (w * h) first_w) 1) (total_of w h first_w) (max (total_of w h first_w) (total_of w h second_w)) (ne_eqb (step_of (w * h) first_w) 1 n)

  -- the first pass fits into M, and the second where there may be one
  pub first_fits : total_of w h first_w ≤ needed_of w h
  unfolding needed_of
  first_fits = go (eqb (step_of (w * h) first_w) 1)
    where
      go : (b : Bool) → total_of w h first_w ≤ cond b (total_of w h first_w) (max (total_of w h first_w) (total_of w h second_w))
      go true = omega arith
      go false = omega arith

  pub second_fits : (step_of (w * h) first_w ≡ 1 → ⊥) → total_of w h second_w ≤ needed_of w h
  second_fits n = omega (arith, needed_both n)

  -- and M is no more than that
  pub no_more : (n : ℕ) → total_of w h first_w ≤ n → ((step_of (w * h) first_w ≡ 1 → ⊥) → total_of w h second_w ≤ n) → needed_of w h ≤ n
  unfolding needed_of
  no_more n f g = go (eqb (step_of (w * h) first_w) 1) refl
    where
      go : (b : Bool) → eqb (step_of (w * h) first_w) 1 ≡ b → cond b (total_of w h first_w) (max (total_of w h first_w) (total_of w h second_w)) ≤ n
      go true e = f
      go false e = omega (arith, f, g (eqb-false (step_of (w * h) first_w) 1 e))

-- where the step of the first pass is 1 so is that of the second, and both have the same windows: M is the larger T in any case
pub needed_max : (w h : ℕ) → needed_of w h ≡ max (total_of w h first_w) (total_of w h second_w)
unfolding needed_of places_of
needed_max w h = go (eqb (step_of (w * h) first_w) 1) refl
  where
    one : step_of (w * h) first_w ≡ 1 → 1 ≡ step_of (w * h) second_w
    one e =
        step_unique
        (record {
          some = omega arith;
          reaches = omega (arith, subst (λ (s : ℕ). w * h ≤ s * s * first_w) e (step_is (w * h) first_w (omega arith)).reaches);
          least = λ t a b. absurd (none t a b);
        })
        (step_is (w * h) second_w (omega arith))
      where
        none : (t : ℕ) → 1 ≤ t → t < 1 → ⊥
        none t a b = omega arith

    go : (b : Bool) → eqb (step_of (w * h) first_w) 1 ≡ b
        → cond b (total_of w h first_w) (max (total_of w h first_w) (total_of w h second_w)) ≡ max (total_of w h first_w) (total_of w h second_w)
    go true e =
        let k : step_of (w * h) first_w ≡ 1 = eqb-true (step_of (w * h) first_w) 1 e in
        omega (arith, ap (λ (s : ℕ). length (joined (row_of w s) 0 (rows_of h s))) (k ∙ one k))
    go false e = refl

-- the sides that a pass takes are those that neither 1 nor 3 refuses
pub sides_taken : (w h : ℕ) → Sides w h ↔ ((too_large w h ≡ false) × (too_small w h ≡ false))
sides_taken w h = (
  λ s. (rw (le-ltb 16384 w s.w_most, le-ltb 16384 h s.h_most) refl, rw (le-ltb w 4 s.wide, le-ltb h 4 s.high) refl),
  λ e.
      let l = not_large w h e.0 in
      let m = not_small w h e.1 in
      record { wide = m.0; high = m.1; w_most = l.0; h_most = l.1 },
)
