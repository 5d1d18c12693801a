-- Every answer's sigma is an f32 from 0 to 409 (`sigma_is_number`), whatever the pixels, the sides and the work slices are.
use mathlib.Core.Path.{◌≡◌, refl, subst}
use mathlib.Core.Bool.{Bool, true, false, cond, ◌||◌}
use mathlib.Core.List.{List}
use Prim.Native.Nat.{ℕ, ◌+◌, ◌*◌, ◌^◌, ◌≤◌}
use native.Mathlib.Nat.{le_trans, le_of_eq}
use native.Mathlib.Omega.{arith}
use borrow.Author.Tests.{eqb-true}
use lib.Dec.{T, eqb, lit≤, lit<}
use lib.ListN.{length, get_or, length-map}
use lib.IntN.{pos}
use lib.Ieee.{Float, binary32, of_bits, of_int, fits, to_bits}
use Rattle.laws.specs.Lists.{Each}
use Rattle.laws.proofs.Choice.{cond_both}
use Rattle.ieee.proofs.Bounded.{Bounded, HoldsWhole, holds_whole, bounded_up, plus_zero_bounded}
use Rattle.ieee.proofs.FromZero.{from_zero_to}
use Rattle.window.specs.declared.WindowStats.{WindowStats}
use Rattle.grid.specs.Step.{step_of}
use Rattle.grid.specs.Grid.{Sides}
use Rattle.grid.specs.Needed.{first_w, second_w}
use Rattle.grid.proofs.Places.{total_most}
use Rattle.grid.proofs.Steps.{few}
use Rattle.measure.specs.Figures.{figures_of}
use Rattle.band.specs.Bands.{banded, sample_of}
use Rattle.band.proofs.Counting.{kept_most}
use Rattle.sample.specs.Laid.{gate32, gates_of, squares_of}
use Rattle.sample.proofs.Parts.{figures_long}
use Rattle.std.specs.Prelude.{Result, Ok, Err, is_ok}
use Rattle.numbers.specs.declared.Number.{Number}
use Rattle.joining.specs.Joining.{figure_of}
use Rattle.milli.proofs.Most.{milli_most}
use Rattle.pass.specs.Pass.{starts_by, noise_in, pass_of}
use Rattle.answer.specs.declared.Answer.{Answer}
use Rattle.noise.specs.Answers.{milli_in, ending_in, decided}
use Rattle.noise.specs.Refusals.{refusal_of}
use Rattle.noise.specs.Call.{refused, measured, noise_of}
use Rattle.noise.proofs.Causes.{allowed}
use Rattle.bounds.specs.Sigma.{sigma_most, SigmaIsNumber}
use Rattle.bounds.proofs.Constants.{SigmaBounded, holds_sigma}
use Rattle.bounds.proofs.Outputs.{Small, figures_small, outputs}
use Rattle.bounds.proofs.Sigmas.{noise_bounded}

-- ---- the figures that are in question: an f32 and bounded
abbrev Fine : Float → Type 0
Fine x = T (fits binary32 x) × Bounded x false sigma_most

holds_thousand : HoldsWhole binary32 1000
holds_thousand = holds_whole binary32 1000 1000 0 (lit< tt) refl (lit≤ tt)

bits_most : to_bits binary32 (of_int binary32 (pos sigma_most)) ≡ 0x43CC_8000
unfolding of_int to_bits
bits_most = refl

number_law : (a : Answer) → Fine a.sigma → a.milli ≤ 1000 * sigma_most → SigmaIsNumber a
number_law a p m =
    let r = from_zero_to binary32 sigma_most (holds_sigma binary32) a.sigma p.0 p.1 in
    record {
      range = r;
      bits = subst (λ (n : ℕ). to_bits binary32 a.sigma ≤ n) bits_most r.bits;
      milli = m;
      thousand = from_zero_to binary32 1000 holds_thousand a.sigma p.0 (bounded_up a.sigma false sigma_most 1000 (lit≤ tt) p.1);
    }

-- ---- a pass
module _ (fs : List WindowStats) (many : length fs ≤ 2 ^ 28) (h : Each Small fs) where
  pass_sigma : SigmaBounded (noise_in fs).sigma
  pass_sigma = noise_bounded (gates_of fs) (squares_of fs) (starts_by (sample_of fs)) (le_trans (le_of_eq (length-map (banded fs) gate32)) (le_trans (kept_most fs) many)) (outputs fs h)

  pass_fine : Fine (figure_of (pass_of fs).sigma)
  unfolding pass_of
  pass_fine = (pass_sigma.fits, pass_sigma.bounded)

  -- thousandths of such a sigma
  few_thousandths : (s : Result Float Number) → Bounded (figure_of s) false sigma_most → milli_in s ≤ 1000 * sigma_most
  few_thousandths (Ok x) b = milli_most x sigma_most b
  few_thousandths (Err why) b = omega arith

  ending_sigma : (rounds passes : ℕ) → SigmaIsNumber (ending_in (pass_of fs) rounds passes)
  ending_sigma rounds passes =
      number_law (ending_in (pass_of fs) rounds passes) pass_fine
      (few_thousandths (pass_of fs).sigma pass_fine.1)

-- ---- a refusal
refused_sigma : (number : ℕ) → SigmaIsNumber (refused number)
unfolding of_bits fits
refused_sigma number = number_law (refused number) (tt, plus_zero_bounded sigma_most) (omega arith)

-- ---- an image of pixels 0 to 255
module _ (img : List ℕ) (bytes : (i : ℕ) → get_or img i 0 ≤ 255) (w h : ℕ) where
  measured_sigma : Sides w h → SigmaIsNumber (measured img w h)
  unfolding measured decided
  measured_sigma sides =
      let p = pass_of (figures_of img w h first_w) in
      let q = pass_of (figures_of img w h second_w) in
      cond_both SigmaIsNumber (is_ok p.sigma || eqb (step_of (w * h) first_w) 1) (ending_in p p.rounds 1) (ending_in q (p.rounds + q.rounds) 2)
      (each first_w (lit≤ tt) p.rounds 1) (each second_w (lit≤ tt) (p.rounds + q.rounds) 2)
    where
      each : (windows : ℕ) → 1 ≤ windows → (rounds passes : ℕ) → SigmaIsNumber (ending_in (pass_of (figures_of img w h windows)) rounds passes)
      each windows some =
          ending_sigma (figures_of img w h windows) (le_trans (le_of_eq (figures_long img w h windows)) (le_trans (total_most w h windows some) (few w h sides))) (figures_small img bytes w h windows)

  -- the call, whatever the sides are, and whether memory is too short
  pub sigma_is_number : (short : Bool) → SigmaIsNumber (noise_of img w h short)
  unfolding noise_of
  sigma_is_number short = go (eqb number 0) refl
    where
      number : ℕ
      number = refusal_of (length img) w h short

      go : (b : Bool) → eqb number 0 ≡ b → SigmaIsNumber (cond b (measured img w h) (refused number))
      go true e = measured_sigma (allowed (length img) w h short (eqb-true number 0 e))
      go false e = refused_sigma number
