-- What the definitions mean: how the total is made, and demand 1 at both calls. Assumes nothing.
use mathlib.Core.Path.{◌≡◌, refl}
use mathlib.Core.Bool.{Bool, true, false, cond, not, ◌&&◌, true≢false, false≢true}
use mathlib.Core.List.{[], ◌∷◌}
use mathlib.Core.Logic.{◌⊎◌, inl, inr, ◌↔◌}
use native.Mathlib.Omega.{arith}
use lib.Ieee.{Float, nan, round}
use Rattle.ieee.specs.Order.{larger}
use Rattle.refine.specs.Covariance.{zeros, all_finite, figures}
use Rattle.refine.specs.Numbers.{OneOf}
use Rattle.refine.specs.declared.PositionCovariance.{PositionCovariance}
use Rattle.std.specs.Prelude.{Result, Ok, Err}
use Rattle.std.proofs.lemmas.Bool.{and_parts, and_from, and_cases, and_left, and_right}
use Rattle.numbers.specs.declared.Number.{Number}
use Rattle.numbers.specs.declared.Number.TheVariants.{FloatRange}
use Rattle.numbers.specs.Numbers.{number_in}
use Rattle.ranges.specs.Arith.{twelfth}
use Rattle.ranges.specs.Ranges.{all_within, both_within, sigma_range}
use Rattle.covariance.specs.declared.CovarianceModel.{CovarianceModel}
use Rattle.covariance.specs.Noise.{noise_variance, noise_term, whole_term, model_in_range, noise_at, total_at}
use Rattle.covariance.specs.Answers.{NoiseAnswers}

-- a NaN for sigma gives 1 / 12
pub nan_variance : noise_variance nan ≡ twelfth
unfolding larger lib.Ieee.mul round
nan_variance = refl

-- ---- four tests joined

some_fails : (a b c d : Bool) → ((a && b) && c) && d ≡ false → (a ≡ false) ⊎ ((b ≡ false) ⊎ ((c ≡ false) ⊎ (d ≡ false)))
some_fails false b c d h = inl refl
some_fails true false c d h = inr (inl refl)
some_fails true true c d h = inr (inr (and_cases c d h))

fails : (a b c d : Bool) → (a ≡ false) ⊎ ((b ≡ false) ⊎ ((c ≡ false) ⊎ (d ≡ false))) → ((a && b) && c) && d ≡ false
fails a b c d (inl h) = and_left _ d (and_left _ c (and_left a b h))
fails a b c d (inr (inl h)) = and_left _ d (and_left _ c (and_right a b h))
fails a b c d (inr (inr (inl h))) = and_left _ d (and_right (a && b) c h)
fails a b c d (inr (inr (inr h))) = and_right ((a && b) && c) d h

all_hold : (a b c d : Bool) → ((a && b) && c) && d ≡ true → (a ≡ true) × (b ≡ true) × (c ≡ true) × (d ≡ true)
all_hold a b c d h =
    let p = and_parts _ d h in let q = and_parts _ c p.0 in let r = and_parts a b q.0 in (r.0, r.1, q.1, p.1)

hold : (a b c d : Bool) → (a ≡ true) × (b ≡ true) × (c ≡ true) × (d ≡ true) → ((a && b) && c) && d ≡ true
hold a b c d h = and_from _ d (and_from _ c (and_from a b h.0 h.1) h.2) h.3

-- ---- 12, or a figure

module _ (figure : PositionCovariance) where
  answer : Bool → Result PositionCovariance Number
  answer b = cond (not b) (Err FloatRange) (Ok figure)

  is_12 : (b : Bool) → (number_in (answer b) ≡ 12) ↔ (b ≡ false)
  unfolding answer
  is_12 true = (λ h. absurd (omega arith), λ h. absurd (true≢false h))
  is_12 false = (λ h. refl, λ h. refl)

  is_0 : (b : Bool) → (number_in (answer b) ≡ 0) ↔ (b ≡ true)
  unfolding answer
  is_0 true = (λ h. refl, λ h. refl)
  is_0 false = (λ h. absurd (omega arith), λ h. absurd (false≢true h))

  other : (b : Bool) → OneOf (12 ∷ 0 ∷ []) (number_in (answer b))
  unfolding answer
  other true = inr (inl refl)
  other false = inl refl

  zeros_back : (b : Bool) → (number_in (answer b) ≡ 0 → ⊥) → figures (answer b) ≡ zeros
  unfolding answer
  zeros_back true h = absurd (h refl)
  zeros_back false h = refl

  figure_back : (b : Bool) → number_in (answer b) ≡ 0 → figures (answer b) ≡ figure
  unfolding answer
  figure_back true h = refl
  figure_back false h = absurd (omega arith)

  answers : (m : CovarianceModel) (sigma : Float) → NoiseAnswers m sigma figure (answer (model_in_range m sigma))
  answers m sigma =
      let a = all_within 1000000 m.noise in let b = all_finite m.systematic in let d = both_within 1000 m.growth in let e = sigma_range sigma in
      let r = model_in_range m sigma in record {
        is_12 = (λ h. some_fails a b d e ((is_12 r).0 h), λ h. (is_12 r).1 (fails a b d e h));
        is_0 = (λ h. all_hold a b d e ((is_0 r).0 h), λ h. (is_0 r).1 (hold a b d e h));
        no_other = other r;
        refused = zeros_back r;
        done = figure_back r;
      }

module _ (m : CovarianceModel) (sigma : Float) where
  pub noise_at_answers : NoiseAnswers m sigma (noise_term m sigma) (noise_at m sigma)
  unfolding noise_at answer
  noise_at_answers = answers (noise_term m sigma) m sigma

  pub total_answers : NoiseAnswers m sigma (whole_term m sigma) (total_at m sigma)
  unfolding total_at answer
  total_answers = answers (whole_term m sigma) m sigma
