-- In every answer milli is the whole number nearest to 1,000 times sigma: that of sigma where the number is 0, else both are zero.
use mathlib.Core.Path.{◌≡◌, refl, sym, subst}
use mathlib.Core.Bool.{Bool, ◌||◌}
use mathlib.Core.List.{List}
use Prim.Native.Nat.{ℕ, ◌+◌, ◌*◌, ◌≤◌}
use native.Mathlib.Nat.{lt_of_le_of_lt}
use lib.Dec.{eqb, lit<}
use lib.ListN.{length, get_or}
use Rattle.laws.proofs.Choice.{cond_both}
use Rattle.ieee.specs.Numbers.{plus_zero}
use Rattle.window.specs.declared.WindowStats.{WindowStats}
use Rattle.grid.specs.Step.{step_of}
use Rattle.grid.specs.Needed.{first_w, second_w}
use Rattle.measure.specs.Figures.{figures_of}
use Rattle.std.specs.Prelude.{Result, Ok, Err, is_ok, Float}
use Rattle.numbers.specs.declared.Number.{Number}
use Rattle.joining.specs.Joining.{figure_of}
use Rattle.milli.specs.Thousandths.{milli_of}
use Rattle.milli.specs.Nearest.{NearestTo}
use Rattle.milli.proofs.Nearest.{is_nearest}
use Rattle.pass.specs.Pass.{pass_of}
use Rattle.answer.specs.declared.Answer.{Answer}
use Rattle.noise.specs.Answers.{milli_in, ending_in, decided}
use Rattle.noise.specs.Refusals.{refusal_of}
use Rattle.noise.specs.Call.{refused, measured, noise_of}
use Rattle.bounds.specs.Sigma.{sigma_most}
use Rattle.bounds.specs.Milli.{MilliIsNearest}
use Rattle.bounds.proofs.Answers.{sigma_is_number}

-- milli is that of sigma
abbrev OfSigma : Answer → Type 0
OfSigma a = a.milli ≡ milli_of a.sigma

of_zero : 0 ≡ milli_of plus_zero
unfolding milli_of
of_zero = refl

of_sigma_or : (s : Result Float Number) → milli_in s ≡ milli_of (figure_of s)
of_sigma_or (Ok x) = refl
of_sigma_or (Err why) = of_zero

of_pass : (fs : List WindowStats) (rounds passes : ℕ) → OfSigma (ending_in (pass_of fs) rounds passes)
of_pass fs rounds passes = of_sigma_or (pass_of fs).sigma

of_measured : (img : List ℕ) (w h : ℕ) → OfSigma (measured img w h)
unfolding measured decided
of_measured img w h =
    let p = pass_of (figures_of img w h first_w) in
    let q = pass_of (figures_of img w h second_w) in
    cond_both OfSigma (is_ok p.sigma || eqb (step_of (w * h) first_w) 1) (ending_in p p.rounds 1) (ending_in q (p.rounds + q.rounds) 2)
    (of_pass (figures_of img w h first_w) p.rounds 1) (of_pass (figures_of img w h second_w) (p.rounds + q.rounds) 2)

of_sigma : (img : List ℕ) (w h : ℕ) (short : Bool) → OfSigma (noise_of img w h short)
unfolding noise_of
of_sigma img w h short =
    let number = refusal_of (length img) w h short in
    cond_both OfSigma (eqb number 0) (measured img w h) (refused number) (of_measured img w h) of_zero

pub milli_is_nearest : (img : List ℕ) → ((i : ℕ) → get_or img i 0 ≤ 255) → (w h : ℕ) (short : Bool) → MilliIsNearest (noise_of img w h short)
milli_is_nearest img bytes w h short =
    let n = sigma_is_number img bytes w h short in
    let e = of_sigma img w h short in
    let x = (noise_of img w h short).sigma in
    subst (NearestTo x) (sym e) (is_nearest x n.range.finite n.range.plus (lt_of_le_of_lt (subst (λ (k : ℕ). k ≤ 1000 * sigma_most) e n.milli) (lit< tt)))
