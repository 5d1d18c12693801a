-- A pass evaluates at most 60 rounds, and its counts are few.
use mathlib.Core.Path.{◌≡◌, sym, ap, subst}
use mathlib.Core.List.{List}
use Prim.Native.Nat.{ℕ, ◌*◌, ◌≤◌}
use native.Mathlib.Omega.{arith}
use native.Mathlib.Nat.{le_trans}
use Rattle.window.specs.declared.WindowStats.{WindowStats}
use Rattle.grid.specs.Grid.{Sides}
use Rattle.grid.proofs.Places.{total_most}
use Rattle.grid.proofs.Steps.{few}
use Rattle.measure.specs.Figures.{figures_of}
use Rattle.band.specs.Bands.{count_of, rail, sample_of}
use Rattle.sample.specs.Laid.{gates_of, squares_of}
use Rattle.band.specs.declared.Sample.{Sample}
use Rattle.band.proofs.Counting.{counts, count_most}
use Rattle.sample.proofs.Parts.{figures_long}
use Rattle.joining.specs.declared.Noise.{Noise}
use Rattle.joining.proofs.Reasons.{noise_rounds}
use Rattle.pass.specs.Pass.{starts_by, noise_in, pass_of}
use Rattle.pass.specs.Steps.{Small}

pub rounds_most : (fs : List WindowStats) → (pass_of fs).rounds ≤ 60
unfolding pass_of
rounds_most fs = noise_rounds (gates_of fs) (squares_of fs) (starts_by (sample_of fs))

-- a pass over an image of allowed sides
module _ (img : List ℕ) (w h windows : ℕ) (sides : Sides w h) (some : 1 ≤ windows) where
  abbrev fs : List WindowStats
  fs = figures_of img w h windows

  counted : (b : ℕ) → count_of b fs ≤ 268435456
  counted b = le_trans (count_most b fs) (le_trans (subst (λ (n : ℕ). n ≤ w * h) (sym (figures_long img w h windows)) (total_most w h windows some)) (few w h sides))

  pub small : (s : Sample) (n : Noise) → s ≡ sample_of fs → n ≡ noise_in fs → Small s n
  small s n e f =
      let c = counts s fs e in
      record {
        b0 = omega (arith, c.c0, counted 0);
        b1 = omega (arith, c.c1, counted 1);
        b2 = omega (arith, c.c2, counted 2);
        b3 = omega (arith, c.c3, counted 3);
        rail = omega (arith, c.c4, counted rail);
        rounds = omega (arith, ap (λ (x : Noise). x.rounds) f, noise_rounds (gates_of fs) (squares_of fs) (starts_by (sample_of fs)));
      }
