-- What the definitions mean: what an addition changes, and that a cleared support sums to zeros. Assumes nothing.
use mathlib.Core.Path.{◌≡◌, refl, sym, ap, ◌∙◌}
use mathlib.Core.List.{List, []}
use Prim.Native.Nat.{ℕ, ◌*◌, ◌≤◌, ◌<◌}
use native.Mathlib.Nat.{not-suc-le-zero}
use native.Mathlib.Omega.{arith}
use lib.IntN.{ℤ}
use lib.ListN.{length, get_or, take, replicate, get_or-replicate}
use lib.Seq.{get_or-set_same, get_or-set_other, get_or-take}
use lib.Ieee
use lib.Ieee.{Float, nan, binary32}
use Rattle.refine.specs.Covariance.{zeros, judged}
use Rattle.std.specs.Prelude.{Result, Ok, Err}
use Rattle.numbers.specs.declared.Number.{Number}
use Rattle.numbers.specs.Numbers.{number_in}
use Rattle.refine.proofs.Numbers.{not_0}
use Rattle.support.specs.Support.{state_judged, state_number}
use Rattle.support.proofs.Places.{few_cells, taken_long}
use Rattle.support.proofs.Refusals.{small}
use Rattle.ieee.specs.Numbers.{plus_zero}
use Rattle.gram.specs.Gram.{gram}
use Rattle.gram.proofs.Laws.{Zeros, gram_zero}
use Rattle.gradients.specs.declared.PixelGradients.{PixelGradients}
use Rattle.gradients.specs.Gradients.{cleared_state, add_at, covariance_of}
use Rattle.gradients.proofs.Refusals.{covariance_0}

-- ---- an addition changes its own cell, and no other

module _ (l : List Float) (k : ℕ) (x : Float) where
  pub there : k < length l → get_or (add_at l k x) k nan ≡ Ieee.add binary32 (get_or l k nan) x
  there h = get_or-set_same l k (Ieee.add binary32 (get_or l k nan) x) nan h

  pub elsewhere : (j : ℕ) → (j ≡ k → ⊥) → get_or (add_at l k x) j nan ≡ get_or l j nan
  elsewhere j h = get_or-set_other l k j (Ieee.add binary32 (get_or l k nan) x) nan h

-- ---- a reset clears every cell, those past the side too

module _ (o : List ℤ) (side k : ℕ) (h : k < 1024) where
  pub cleared_gx : get_or (cleared_state o side).gx k nan ≡ plus_zero
  cleared_gx = get_or-replicate 1024 k plus_zero nan h

  pub cleared_gy : get_or (cleared_state o side).gy k nan ≡ plus_zero
  cleared_gy = get_or-replicate 1024 k plus_zero nan h

-- ---- the support's sum

cleared_cells : (n : ℕ) → n ≤ 1024 → Zeros (take n (replicate 1024 plus_zero))
cleared_cells n h i l = get_or-take n (replicate 1024 plus_zero) i nan low ∙ get_or-replicate 1024 i plus_zero nan (omega (arith, low))
  where
    low : i < n
    low = omega (arith, taken_long n (replicate 1024 plus_zero) h refl)

-- nothing refuses what has the number 0
taken : (r : Result Unit Number) → 0 ≡ number_in r → Ok tt ≡ r
taken (Ok tt) e = refl
taken (Err why) e = absurd (not_0 why (sym e))

-- a support that is reset and to which nothing is added sums to zeros
pub reset_zeros : (o : List ℤ) (side : ℕ) → 0 ≡ state_number o side → covariance_of (cleared_state o side) ≡ Ok zeros
reset_zeros o side e = sym (covariance_0 (cleared_state o side) judged_taken) ∙ gram_zero _ _ cells cells refl
  where
    judged_taken : Ok tt ≡ state_judged o side
    judged_taken = taken (state_judged o side) e

    cells : Zeros (take (side * side) (replicate 1024 plus_zero))
    cells = cleared_cells (side * side) (few_cells side (small o side judged_taken))

-- side 0 gives zeros, whatever the cells hold
pub side_0_zeros : (s : PixelGradients) → 0 ≡ state_number s.origin s.side → s.side ≡ 0 → covariance_of s ≡ Ok zeros
side_0_zeros s e h =
    sym (covariance_0 s (taken (state_judged s.origin s.side) e)) ∙ ap (λ (n : ℕ). judged (gram (take (n * n) s.gx) (take (n * n) s.gy))) h
    ∙ gram_zero [] [] none none refl
  where
    none : Zeros []
    none i l = absurd (not-suc-le-zero l)
