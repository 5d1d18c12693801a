-- What an answer with 0, 5, 6 or 7 has: it comes of a call that nothing refused, its record keeps the rule, and each of its
-- fields fits into four bytes.
use mathlib.Core.Path.{◌≡◌, refl, sym, ap, ◌∙◌, subst}
use mathlib.Core.Bool.{Bool, true, false, cond, true≢false}
use mathlib.Core.Logic.{◌⊎◌, inl, inr}
use mathlib.Core.List.{List}
use Prim.Native.Nat.{ℕ, ◌^◌, ◌≤◌, ◌<◌}
use native.Mathlib.Omega.{arith}
use native.Mathlib.Nat.{le_trans}
use lib.Dec.{eqb}
use lib.ListN.{length, get_or}
use lib.Ieee.{binary32, to_bits, of_bits}
use Rattle.laws.proofs.Choice.{cond_both}
use Rattle.ieee.proofs.Naturals.{le_or_lt}
use Rattle.ieee.specs.Numbers.{plus_zero}
use Rattle.grid.specs.Grid.{Sides, total_of}
use Rattle.grid.specs.Needed.{first_w, second_w}
use Rattle.grid.proofs.Places.{total_most}
use Rattle.grid.proofs.Steps.{few}
use Rattle.answer.specs.declared.Answer.{Answer}
use Rattle.noise.specs.Refusals.{refusal_of}
use Rattle.noise.specs.Call.{ran, noise_of}
use Rattle.noise.proofs.Causes as Causes
use Rattle.noise.proofs.Numbers.{ran_not}
use Rattle.noise.proofs.Leaving.{noise_refused, noise_measured}
use Rattle.noise.proofs.Totals.{windows_in, total_by, counts_add}
use Rattle.noise.proofs.Demand1.{demand1}
use Rattle.bounds.proofs.Answers.{sigma_is_number}
use Rattle.record.specs.Rule.{AnswerStored, stored_answer, Allowed}
use Rattle.logging.specs.Logging.{record_of_answer}

-- ---- the numbers that are stored are those of a call whose passes ran

pub stored_ran : (n : ℕ) → stored_answer n ≡ ran n
unfolding stored_answer
stored_ran n = refl

pub ran_of : (n : ℕ) → AnswerStored n → ran n ≡ true
ran_of n (inl e) = ap ran e
ran_of n (inr (inl e)) = ap ran e
ran_of n (inr (inr (inl e))) = ap ran e
ran_of n (inr (inr (inr e))) = ap ran e

-- ---- an answer with such a number

zero_bits : to_bits binary32 plus_zero ≡ 0
unfolding to_bits of_bits
zero_bits = refl

module _ (img : List ℕ) (bytes : (i : ℕ) → get_or img i 0 ≤ 255) (w h : ℕ) (short : Bool)
    (stored : AnswerStored (noise_of img w h short).number) where
  abbrev a : Answer
  a = noise_of img w h short

  abbrev refusal : ℕ
  refusal = refusal_of (length img) w h short

  not_refused : refusal ≡ 0
  not_refused = elim (le_or_lt 1 refusal) [
    | inr k ↦ omega arith
    | inl k ↦
        let no : refusal ≡ 0 → ⊥ = λ z. omega arith in
        absurd (true≢false (sym (ran_of a.number stored) ∙ ap (λ (x : Answer). ran x.number) (noise_refused img w h short no)
        ∙ ran_not refusal no (Causes.refusal_most (length img) w h short)))
  ]

  sides : Sides w h
  sides = Causes.allowed (length img) w h short not_refused

  counted : windows_in a ≡ total_by w h a.passes
  counted =
      subst (λ (x : Answer). windows_in x ≡ total_by w h x.passes) (sym (noise_measured img w h short not_refused))
      (counts_add img w h)

  one_of_both : (b : Bool) → (cond b (total_of w h first_w) (total_of w h second_w) ≡ total_of w h first_w)
      ⊎ (cond b (total_of w h first_w) (total_of w h second_w) ≡ total_of w h second_w)
  one_of_both true = inl refl
  one_of_both false = inr refl

  pub keeps_rule : (shot : ℕ) → Allowed (record_of_answer shot w h a)
  keeps_rule shot =
      record {
        sides = sides;
        answer = stored;
        figure = λ z. (le_trans (sigma_is_number img bytes w h short).bits (omega arith), ((demand1 img w h short).figure.0 z).1);
        no_figure = λ n. ap (to_bits binary32) ((demand1 img w h short).unless n).0 ∙ zero_bits;
        counts = elim (one_of_both (eqb a.passes 1)) [ inl e ↦ inl (counted ∙ e) | inr e ↦ inr (counted ∙ e) ];
      }

  windows_most : windows_in a ≤ 268435456
  windows_most =
      subst (λ (n : ℕ). n ≤ 268435456) (sym counted)
      (cond_both (λ (n : ℕ). n ≤ 268435456) (eqb a.passes 1) (total_of w h first_w) (total_of w h second_w)
      (le_trans (total_most w h first_w (omega arith)) (few w h sides))
      (le_trans (total_most w h second_w (omega arith)) (few w h sides)))

  -- what is read back from four bytes each
  pub number_fits : a.number < 256 ^ 4
  number_fits = omega (arith, (demand1 img w h short).most)

  pub sigma_fits : to_bits binary32 a.sigma < 256 ^ 4
  sigma_fits = omega (arith, (sigma_is_number img bytes w h short).bits)

  pub counts_fit : (a.b0 < 256 ^ 4) × (a.b1 < 256 ^ 4) × (a.b2 < 256 ^ 4) × (a.b3 < 256 ^ 4) × (a.rail < 256 ^ 4)
  counts_fit =
      let l = windows_most in
      (omega (arith, l), omega (arith, l), omega (arith, l), omega (arith, l), omega (arith, l))
