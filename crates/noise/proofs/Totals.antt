-- Band counts plus rail equal T of the pass that decided.
use mathlib.Core.Path.{◌≡◌, ◌∙◌}
use mathlib.Core.Bool.{Bool, true, false, cond, ◌||◌}
use mathlib.Core.List.{List}
use Prim.Native.Nat.{ℕ, ◌+◌, ◌*◌}
use lib.Dec.{eqb}
use lib.ListN.{length}
use Rattle.window.specs.declared.WindowStats.{WindowStats}
use Rattle.grid.specs.Step.{step_of}
use Rattle.grid.specs.Grid.{total_of}
use Rattle.grid.specs.Needed.{first_w, second_w}
use Rattle.band.specs.Bands.{sample_of}
use Rattle.measure.specs.Figures.{figures_of}
use Rattle.band.proofs.Counting.{all_counted}
use Rattle.sample.proofs.Parts.{figures_long}
use Rattle.std.specs.Prelude.{is_ok}
use Rattle.answer.specs.declared.Answer.{Answer}
use Rattle.pass.specs.Pass.{pass_of}
use Rattle.noise.specs.Answers.{ending_in, decided}
use Rattle.noise.specs.Call.{measured}

abbrev pub windows_in : Answer → ℕ
windows_in a = a.b0 + a.b1 + a.b2 + a.b3 + a.rail

-- T of the last pass
abbrev pub total_by : ℕ → ℕ → ℕ → ℕ
total_by w h passes = cond (eqb passes 1) (total_of w h first_w) (total_of w h second_w)

of_pass : (fs : List WindowStats) (rounds passes : ℕ) → windows_in (ending_in (pass_of fs) rounds passes) ≡ length fs
unfolding pass_of sample_of
of_pass fs rounds passes = all_counted fs

module _ (img : List ℕ) (w h : ℕ) where
  by_case : (b : Bool) (first second : ℕ)
      → windows_in (cond b (ending_in (pass_of (figures_of img w h first_w)) first 1) (ending_in (pass_of (figures_of img w h second_w)) second 2))
      ≡ total_by w h (cond b (ending_in (pass_of (figures_of img w h first_w)) first 1) (ending_in (pass_of (figures_of img w h second_w)) second 2)).passes
  by_case true first second = of_pass (figures_of img w h first_w) first 1 ∙ figures_long img w h first_w
  by_case false first second = of_pass (figures_of img w h second_w) second 2 ∙ figures_long img w h second_w

  pub counts_add : windows_in (measured img w h) ≡ total_by w h (measured img w h).passes
  unfolding measured decided
  counts_add =
      by_case (is_ok (pass_of (figures_of img w h first_w)).sigma || eqb (step_of (w * h) first_w) 1)
      (pass_of (figures_of img w h first_w)).rounds ((pass_of (figures_of img w h first_w)).rounds + (pass_of (figures_of img w h second_w)).rounds)
