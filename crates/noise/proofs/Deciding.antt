-- Which pass decides, and the answer it gives.
use Rattle.std.specs.Prelude.{◌≡◌, refl, true, false, ℕ, ◌+◌, Result, Ok, Err, is_ok, Float}
use Rattle.std.proofs.Common.{ap, ◌∙◌}
use borrow.Author.Tests.{eq-eqb, ne_eqb}
use Rattle.numbers.specs.declared.Number.{Number}
use Rattle.numbers.specs.Numbers.{number_in}
use Rattle.milli.specs.Thousandths.{milli_of}
use Rattle.joining.specs.Joining.{figure_of}
use Rattle.answer.specs.declared.Answer.{Answer}
use Rattle.pass.specs.declared.Pass.{Pass}
use Rattle.noise.specs.Answers.{milli_in, ending_in, decided}
use Rattle.noise.proofs.Causes.{some_number}

-- ---- a sigma by its number

figure_milli : (s : Result Float Number) → number_in s ≡ 0 → milli_of (figure_of s) ≡ milli_in s
figure_milli (Ok x) h = refl
figure_milli (Err why) h = absurd (some_number why h)

pub no_milli : (s : Result Float Number) → (number_in s ≡ 0 → ⊥) → 0 ≡ milli_in s
no_milli (Ok x) h = absurd (h refl)
no_milli (Err why) h = refl

there : (s : Result Float Number) → number_in s ≡ 0 → is_ok s ≡ true
there (Ok x) h = refl
there (Err why) h = absurd (some_number why h)

missing : (s : Result Float Number) → (number_in s ≡ 0 → ⊥) → is_ok s ≡ false
missing (Ok x) h = absurd (h refl)
missing (Err why) h = refl

-- ---- thousandths count where the number is 0
module _ (p : Pass) (rounds passes : ℕ) where
  abbrev with_milli : ℕ → Answer
  with_milli m =
      record {
        number = number_in p.sigma;
        sigma = figure_of p.sigma;
        milli = m;
        b0 = p.b0;
        b1 = p.b1;
        b2 = p.b2;
        b3 = p.b3;
        rail = p.rail;
        rounds = rounds;
        passes = passes;
      }

  pub figure : (m : ℕ) → m ≡ milli_of (figure_of p.sigma) → number_in p.sigma ≡ 0 → with_milli m ≡ ending_in p rounds passes
  figure m e h = ap with_milli (e ∙ figure_milli p.sigma h)

  pub no_figure_lem : (number_in p.sigma ≡ 0 → ⊥) → with_milli 0 ≡ ending_in p rounds passes
  no_figure_lem h = ap with_milli (no_milli p.sigma h)

-- ---- the pass that decides
module _ (s : ℕ) (p q : Pass) where
  pub first_gives : number_in p.sigma ≡ 0 → ending_in p p.rounds 1 ≡ decided s p q
  unfolding decided
  first_gives h = rw (there p.sigma h)

  module _ (n : number_in p.sigma ≡ 0 → ⊥) where
    pub first_is_all : s ≡ 1 → ending_in p p.rounds 1 ≡ decided s p q
    unfolding decided
    first_is_all g = rw (missing p.sigma n, eq-eqb s 1 g)

    pub second_decides : (s ≡ 1 → ⊥) → ending_in q (p.rounds + q.rounds) 2 ≡ decided s p q
    unfolding decided
    second_decides g = rw (missing p.sigma n, ne_eqb s 1 g)
