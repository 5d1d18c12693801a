-- Demand 1 at the accumulator's calls: which numbers can come, each exactly where its cause is the first that applies, in
-- document 01's order, and what is handed back. Laws: `reset_answers`, `add_answers`, `covariance_answers`.
use Rattle.std.specs.Prelude.{ℕ, ◌≤◌, ◌<◌, ◌≡◌, true, false, List, [], ◌∷◌, ◌↔◌, ℤ, Float, Result}
use Rattle.numbers.specs.declared.Number.{Number}
use Rattle.numbers.specs.Numbers.{number_in}
use Rattle.limits.specs.Limits.{far_place}
use Rattle.refine.specs.Covariance.{zeros, all_finite, figures}
use Rattle.refine.specs.Numbers.{OneOf}
use Rattle.refine.specs.declared.PositionCovariance.{PositionCovariance}
use Rattle.gradients.specs.declared.PixelGradients.{PixelGradients}
use Rattle.gradients.specs.declared.Unchanged.{Unchanged}
use Rattle.gradients.specs.Gradients.{handed_number, handed_state, cleared_state, in_support, cell, both_finite, added, support_gram}

-- neither 8 nor 10 refuses the state
abbrev pub Taken : PixelGradients → Type 0
Taken s = (far_place s.origin ≡ false) × (s.side ≤ 32)

-- `reset`: 8, 10, of the new origin and side only
pub record ResetAnswers (s : PixelGradients) (o : List ℤ) (side : ℕ) (h : Result PixelGradients Unchanged) : Type 0 where
  pub is_8 : (handed_number h ≡ 8) ↔ (far_place o ≡ true)
  pub is_10 : (handed_number h ≡ 10) ↔ ((far_place o ≡ false) × (32 < side))
  pub is_0 : (handed_number h ≡ 0) ↔ ((far_place o ≡ false) × (side ≤ 32))
  pub no_other : OneOf (8 ∷ 10 ∷ 0 ∷ []) (handed_number h)
  pub refused : (handed_number h ≡ 0 → ⊥) → handed_state h ≡ s
  pub done : handed_number h ≡ 0 → handed_state h ≡ cleared_state o side

-- `add`: 8, 10 of the state, 12, 11
pub record AddAnswers (s : PixelGradients) (x y : ℤ) (v : List Float) (h : Result PixelGradients Unchanged) : Type 0 where
  pub is_8 : (handed_number h ≡ 8) ↔ (far_place s.origin ≡ true)
  pub is_10 : (handed_number h ≡ 10) ↔ ((far_place s.origin ≡ false) × (32 < s.side))
  pub is_12 : (handed_number h ≡ 12) ↔ (Taken s × (both_finite v ≡ false))
  pub is_11 : (handed_number h ≡ 11) ↔ (Taken s × ((both_finite v ≡ true) × (in_support s x y ≡ false)))
  pub is_0 : (handed_number h ≡ 0) ↔ (Taken s × ((both_finite v ≡ true) × (in_support s x y ≡ true)))
  pub no_other : OneOf (8 ∷ 10 ∷ 12 ∷ 11 ∷ 0 ∷ []) (handed_number h)
  pub refused : (handed_number h ≡ 0 → ⊥) → handed_state h ≡ s
  pub done : handed_number h ≡ 0 → handed_state h ≡ added s (cell s x y) v

-- `covariance`: 8, 10 of the state, 13
pub record CovarianceAnswers (s : PixelGradients) (j : Result PositionCovariance Number) : Type 0 where
  pub is_8 : (number_in j ≡ 8) ↔ (far_place s.origin ≡ true)
  pub is_10 : (number_in j ≡ 10) ↔ ((far_place s.origin ≡ false) × (32 < s.side))
  pub is_13 : (number_in j ≡ 13) ↔ (Taken s × (all_finite (support_gram s) ≡ false))
  pub is_0 : (number_in j ≡ 0) ↔ (Taken s × (all_finite (support_gram s) ≡ true))
  pub no_other : OneOf (8 ∷ 10 ∷ 13 ∷ 0 ∷ []) (number_in j)
  pub refused : (number_in j ≡ 0 → ⊥) → figures j ≡ zeros
  pub done : number_in j ≡ 0 → figures j ≡ support_gram s
