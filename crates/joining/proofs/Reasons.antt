-- Each of document 01's numbers is an exact inequality, and sigma is zero unless the number is 0. Assumes nothing.
use mathlib.Core.Path.{◌≡◌, refl, sym, ap, ◌∙◌, subst}
use mathlib.Core.List.{List}
use mathlib.Core.Logic.{◌⊎◌, inl, inr}
use Prim.Native.Nat.{ℕ, ◌≤◌, ◌<◌}
use native.Mathlib.Omega.{arith}
use lib.ListN.{length}
use lib.Ieee.{Float}
use lib.Dec.{ltb, eqb}
use Rattle.std.specs.Prelude.{Option, Result, Ok, Err}
use Rattle.numbers.specs.Numbers.{number_in}
use Rattle.numbers.specs.declared.Number.{Number}
use Rattle.numbers.specs.declared.Number.TheVariants.{Few, NoBand, Thin}
use borrow.Author.Tests.{lt-ltb, le-ltb, eq-eqb, ne_eqb}
use Rattle.ieee.proofs.Naturals.{le_or_lt}
use Rattle.laws.proofs.Choice.{chosen, passed, cond_both}
use Rattle.ieee.specs.Numbers.{plus_zero}
use Rattle.sums.specs.Admitted.{no_total}
use Rattle.sums.specs.declared.Total.{Total}
use Rattle.rounds.specs.Rounds.{image_variance, Bands}
use Rattle.rounds.specs.declared.Found.{Found}
use Rattle.rounds.proofs.Bounds.{image_rounds}
use Rattle.joining.specs.Joining.{variances, median, outlier_limit, joined_bands, min_samples, deviation, sigma_of_total, sigma_of, founds, noise_under, noise, figure_of}
use Rattle.joining.specs.declared.Noise.{Noise}
use Rattle.joining.proofs.Noises.{rounds_few, counts_few, noise_few}
use Rattle.joining.proofs.Joins.{join_few}

-- `kept` windows are kept, `found` bands have a variance, the bands joined hold `held`, and the number is n
data Reason (kept found held n : ℕ) : Type 0 where
  few : kept < 512 → n ≡ 5 → Reason kept found held n
  none : 512 ≤ kept → found ≡ 0 → n ≡ 6 → Reason kept found held n
  thin : 512 ≤ kept → 0 < found → held < 512 → n ≡ 7 → Reason kept found held n
  given : 512 ≤ kept → 0 < found → 512 ≤ held → n ≡ 0 → Reason kept found held n

pub record Exactly (kept found held n : ℕ) : Type 0 where
  pub five : (n ≡ 5 → kept < 512) × (kept < 512 → n ≡ 5)
  pub six : (n ≡ 6 → (512 ≤ kept) × (found ≡ 0)) × ((512 ≤ kept) × (found ≡ 0) → n ≡ 6)
  pub seven : (n ≡ 7 → (512 ≤ kept) × (0 < found) × (held < 512)) × ((512 ≤ kept) × (0 < found) × (held < 512) → n ≡ 7)
  pub zero : (n ≡ 0 → (512 ≤ kept) × (0 < found) × (512 ≤ held)) × ((512 ≤ kept) × (0 < found) × (512 ≤ held) → n ≡ 0)

exactly : (kept found held n : ℕ) → Reason kept found held n → Exactly kept found held n
exactly kept found held n (few a e) =
    record { five = (λ x. omega arith, λ x. omega arith); six = (λ x. omega arith, λ x. omega arith); seven = (λ x. omega arith, λ x. omega arith); zero = (λ x. omega arith, λ x. omega arith) }
exactly kept found held n (none a b e) =
    record { five = (λ x. omega arith, λ x. omega arith); six = (λ x. omega arith, λ x. omega arith); seven = (λ x. omega arith, λ x. omega arith); zero = (λ x. omega arith, λ x. omega arith) }
exactly kept found held n (thin a b d e) =
    record { five = (λ x. omega arith, λ x. omega arith); six = (λ x. omega arith, λ x. omega arith); seven = (λ x. omega arith, λ x. omega arith); zero = (λ x. omega arith, λ x. omega arith) }
exactly kept found held n (given a b d e) =
    record { five = (λ x. omega arith, λ x. omega arith); six = (λ x. omega arith, λ x. omega arith); seven = (λ x. omega arith, λ x. omega arith); zero = (λ x. omega arith, λ x. omega arith) }

-- ---- the number by its stages

number_decided : (k : Total) → ((k.n < 512) × (number_in (sigma_of_total k) ≡ 7)) ⊎ ((512 ≤ k.n) × (number_in (sigma_of_total k) ≡ 0))
unfolding sigma_of_total
number_decided k = elim (le_or_lt 512 k.n) [
  | inl h ↦ inr (h, ap number_in (sym (passed (ltb k.n min_samples) (Err Thin) (Ok (deviation k)) (le-ltb k.n min_samples h))))
  | inr h ↦ inl (h, ap number_in (sym (chosen (ltb k.n min_samples) (Err Thin) (Ok (deviation k)) (lt-ltb k.n min_samples h))))
]

number_found : (bands : List (Option Found)) (kept : ℕ) → 512 ≤ kept → Reason kept (length (variances bands)) (joined_bands bands).n (number_in (sigma_of bands))
unfolding sigma_of
number_found bands kept g = elim (le_or_lt 1 (length (variances bands))) [
  | inl h ↦ by_join h (number_decided (joined_bands bands)) (ap number_in (sym (passed (eqb (length (variances bands)) 0) (Err NoBand) (sigma_of_total (joined_bands bands)) (ne_eqb (length (variances bands)) 0 (λ z. some h z)))))
  | inr h ↦ none g (omega arith) (ap number_in (sym (chosen (eqb (length (variances bands)) 0) (Err NoBand) (sigma_of_total (joined_bands bands)) (eq-eqb (length (variances bands)) 0 (omega arith)))))
]
  where
    some : 1 ≤ length (variances bands) → length (variances bands) ≡ 0 → ⊥
    some h z = omega arith

    by_join : 1 ≤ length (variances bands) → (((joined_bands bands).n < 512) × (number_in (sigma_of_total (joined_bands bands)) ≡ 7)) ⊎ ((512 ≤ (joined_bands bands).n) × (number_in (sigma_of_total (joined_bands bands)) ≡ 0))
        → number_in (sigma_of bands) ≡ number_in (sigma_of_total (joined_bands bands)) → Reason kept (length (variances bands)) (joined_bands bands).n (number_in (sigma_of bands))
    by_join h (inl j) e = thin g h j.0 (e ∙ j.1)
    by_join h (inr j) e = given g h j.0 (e ∙ j.1)

module _ (g o : List Float) (starts : List ℕ) where
  abbrev pub bands : List (Option Found)
  bands = founds g o starts (image_variance g o starts).var

  reason : Reason (length g) (length (variances bands)) (joined_bands bands).n (number_in (noise g o starts).sigma)
  unfolding noise noise_under
  reason = elim (le_or_lt 512 (length g)) [
    | inl h ↦ subst (λ (x : Noise). Reason (length g) (length (variances bands)) (joined_bands bands).n (number_in x.sigma))
        (passed (ltb (length g) min_samples) (record { sigma = Err Few; rounds = 0 }) (noise_under g o starts (image_variance g o starts)) (le-ltb (length g) min_samples h))
        (number_found bands (length g) h)
    | inr h ↦ few h (ap (λ (x : Noise). number_in x.sigma) (sym (noise_few g o starts h)))
  ]

  pub number_exactly : Exactly (length g) (length (variances bands)) (joined_bands bands).n (number_in (noise g o starts).sigma)
  number_exactly = exactly (length g) (length (variances bands)) (joined_bands bands).n (number_in (noise g o starts).sigma) reason

  -- no more windows are joined than are kept
  pub held_few : Bands g o starts → (joined_bands bands).n ≤ length g
  unfolding joined_bands
  held_few B = omega (arith, join_few (outlier_limit (median (variances bands))) no_total bands, counts_few B (image_variance g o starts).var)

  -- the rounds of the image and of four bands
  pub noise_rounds : (noise g o starts).rounds ≤ 60
  unfolding noise noise_under
  noise_rounds =
      cond_both (λ (x : Noise). x.rounds ≤ 60) (ltb (length g) min_samples) (record { sigma = Err Few; rounds = 0 }) (noise_under g o starts (image_variance g o starts)) (omega arith)
      (omega (arith, image_rounds g o starts, rounds_few g o starts (image_variance g o starts).var 4))

pub no_figure_lem : (s : Result Float Number) → (number_in s ≡ 0 → ⊥) → figure_of s ≡ plus_zero
no_figure_lem (Ok s) h = absurd (h refl)
no_figure_lem (Err why) h = refl
