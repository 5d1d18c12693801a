-- The numbers of a call whose passes run are 0, 5, 6 and 7, each exactly for its cause; those of a refusal are 1 to 4.
use mathlib.Core.Path.{◌≡◌, refl, sym, ap, subst}
use mathlib.Core.Bool.{Bool, true, false, cond}
use mathlib.Core.Logic.{◌⊎◌, inl, inr}
use mathlib.Core.List.{List}
use Prim.Native.Nat.{ℕ, ◌+◌, ◌≤◌, ◌<◌}
use native.Mathlib.Omega.{arith}
use borrow.Author.Tests.{ne_eqb}
use Rattle.ieee.proofs.Naturals.{le_or_lt}
use Rattle.ieee.specs.Numbers.{plus_zero}
use Rattle.window.specs.declared.WindowStats.{WindowStats}
use Rattle.grid.specs.Needed.{first_w, second_w}
use Rattle.measure.specs.Figures.{figures_of}
use Rattle.joining.proofs.Reasons.{Exactly}
use Rattle.answer.specs.declared.Answer.{Answer}
use Rattle.pass.specs.Pass.{noise_in, pass_of, found_by, held_by}
use Rattle.pass.proofs.Reasons.{pass_exactly, pass_zero}
use Rattle.noise.specs.Refusals.{refusal_of}
use Rattle.noise.specs.Answers.{ending_in, decided}
use Rattle.noise.specs.Call.{measured, one_runs, ran}
use Rattle.noise.specs.Demand1.{kept_in, deciding}
use Rattle.noise.proofs.Causes.{refusal_most}
use Rattle.noise.proofs.Deciding.{no_milli}

-- ---- the pass that decides

-- an answer that ends in the figures fs
pub record Ends (fs : List WindowStats) (a : Answer) : Type 0 where
  pub exactly : Exactly (kept_in a) (found_by fs) (held_by fs) a.number
  pub unless : (a.number ≡ 0 → ⊥) → (a.sigma ≡ plus_zero) × (a.milli ≡ 0)

ends : (fs : List WindowStats) (rounds passes : ℕ) → Ends fs (ending_in (pass_of fs) rounds passes)
unfolding pass_of
ends fs rounds passes =
    record {
      exactly = pass_exactly fs;
      unless = λ n. (pass_zero fs n, sym (no_milli (noise_in fs).sigma n));
    }

module _ (img : List ℕ) (w h : ℕ) where
  abbrev first : List WindowStats
  first = figures_of img w h first_w

  abbrev second : List WindowStats
  second = figures_of img w h second_w

  pub measured_ends : Ends (deciding img w h) (measured img w h)
  unfolding measured decided
  measured_ends = by_case (one_runs img w h) (pass_of first).rounds ((pass_of first).rounds + (pass_of second).rounds)
    where
      by_case : (b : Bool) (m n : ℕ) → Ends (cond b first second) (cond b (ending_in (pass_of first) m 1) (ending_in (pass_of second) n 2))
      by_case true m n = ends first m 1
      by_case false m n = ends second n 2

-- one of four
pub one_of : {kept found held n : ℕ} → Exactly kept found held n → (P : ℕ → Type 0) → P 0 → P 5 → P 6 → P 7 → P n
one_of {kept} {found} {held} {n} e P p0 p5 p6 p7 = elim (le_or_lt 512 kept) [
  | inr a ↦ subst P (sym (e.five.1 a)) p5
  | inl a ↦ elim (le_or_lt 1 found) [
    | inr b ↦ subst P (sym (e.six.1 (a, omega arith))) p6
    | inl b ↦ elim (le_or_lt 512 held) [
      | inr c ↦ subst P (sym (e.seven.1 (a, b, c))) p7
      | inl c ↦ subst P (sym (e.zero.1 (a, b, c))) p0
    ]
  ]
]

pub measured_ran : (img : List ℕ) (w h : ℕ) → ran (measured img w h).number ≡ true
measured_ran img w h = one_of (measured_ends img w h).exactly (λ n. ran n ≡ true) refl refl refl refl

pub ran_is : (n : ℕ) → (n ≡ 0) ⊎ (5 ≤ n) × (n ≤ 7) → ran n ≡ true
ran_is n (inl e) = ap ran e
ran_is n (inr e) = elim (le_or_lt 6 n) [
  | inr a ↦ ap ran (five n e.0 a)
  | inl a ↦ elim (le_or_lt 7 n) [
    | inr b ↦ ap ran (six n a b)
    | inl b ↦ ap ran (seven n e.1 b)
  ]
]
  where
    five : (n : ℕ) → 5 ≤ n → n < 6 → n ≡ 5
    five n a b = omega arith

    six : (n : ℕ) → 6 ≤ n → n < 7 → n ≡ 6
    six n a b = omega arith

    seven : (n : ℕ) → n ≤ 7 → 7 ≤ n → n ≡ 7
    seven n a b = omega arith

-- ---- a refusal

pub ran_not : (n : ℕ) → (n ≡ 0 → ⊥) → n ≤ 4 → ran n ≡ false
ran_not n z h = rw (ne_eqb n 0 z, ne_eqb n 5 (λ e. omega arith), ne_eqb n 6 (λ e. omega arith), ne_eqb n 7 (λ e. omega arith))

pub refusal_stays : (pixels w h : ℕ) (short : Bool) → (refusal_of pixels w h short ≡ 0 → ⊥) → ran (refusal_of pixels w h short) ≡ false
refusal_stays pixels w h short n = ran_not (refusal_of pixels w h short) n (refusal_most pixels w h short)
