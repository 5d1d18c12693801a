-- A pass has each number exactly for its cause, and sigma is zero unless the number is 0. Assumes nothing.
use mathlib.Core.Path.{◌≡◌, refl, sym, ◌∙◌, subst}
use mathlib.Core.List.{List}
use Prim.Native.Nat.{ℕ}
use lib.ListN.{length, length-map}
use Rattle.numbers.specs.Numbers.{number_in}
use Rattle.ieee.specs.Numbers.{plus_zero}
use Rattle.joining.specs.Joining.{figure_of}
use Rattle.window.specs.declared.WindowStats.{WindowStats}
use Rattle.band.specs.Bands.{banded, sample_of}
use Rattle.band.proofs.Counting.{counts}
use Rattle.sample.specs.Laid.{gate32, gates_of, squares_of}
use Rattle.sample.proofs.Scattering.{kept_by_lem}
use Rattle.joining.proofs.Reasons.{Exactly, number_exactly, no_figure_lem}
use Rattle.pass.specs.Pass.{kept_by, starts_by, noise_in, pass_of, found_by, held_by}

module _ (fs : List WindowStats) where
  kept_long : length (gates_of fs) ≡ kept_by (sample_of fs)
  kept_long = length-map (banded fs) gate32 ∙ sym (kept_by_lem (sample_of fs) fs (counts (sample_of fs) fs refl))

  pub pass_exactly : Exactly (kept_by (sample_of fs)) (found_by fs) (held_by fs) (number_in (pass_of fs).sigma)
  unfolding pass_of
  pass_exactly =
      subst (λ (k : ℕ). Exactly k (found_by fs) (held_by fs) (number_in (pass_of fs).sigma)) kept_long
      (number_exactly (gates_of fs) (squares_of fs) (starts_by (sample_of fs)))

  pub pass_zero : (number_in (pass_of fs).sigma ≡ 0 → ⊥) → figure_of (pass_of fs).sigma ≡ plus_zero
  unfolding pass_of
  pass_zero n = no_figure_lem (noise_in fs).sigma n
