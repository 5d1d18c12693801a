-- What the rounds find in the f32 slice, where the figures of a pass were laid.
use mathlib.Core.Path.{◌≡◌, ap, ◌∙◌}
use mathlib.Core.List.{List}
use Prim.Native.Nat.{ℕ, ◌+◌, ◌≤◌}
use native.Mathlib.Omega.{arith}
use lib.ListN.{length, take, drop}
use lib.Ieee.{Float}
use Rattle.window.specs.declared.WindowStats.{WindowStats}
use Rattle.band.specs.Bands.{kept_of, sample_of}
use Rattle.sample.specs.Laid.{gates_of, squares_of, laid_in}
use Rattle.band.specs.declared.Sample.{Sample}
use Rattle.band.proofs.Counting.{counts, kept_most}
use Rattle.sample.proofs.Scattering.{kept_by_lem}
use Rattle.sample.proofs.Parts.{gates_first, squares_next}
use Rattle.joining.specs.Joining.{noise}
use Rattle.joining.specs.declared.Noise.{Noise}
use Rattle.pass.specs.declared.Pass.{Pass}
use Rattle.pass.specs.Memory.{floats_for}
use Rattle.pass.specs.Pass.{kept_by, starts_by, noise_in, packed, pass_of}
use Rattle.pass.specs.Steps.{gates_in, squares_in, Room}

module _ (fs : List WindowStats) (t : ℕ) (all : length fs ≡ t) where
  module _ (old : List Float) (room : floats_for t ≤ length old) where
    abbrev k : ℕ
    k = kept_of fs

    few : k ≤ t
    few = omega (arith, kept_most fs)

    module _ (s : Sample) (is : s ≡ sample_of fs) (new : List Float) (long : length new ≡ length old) (laid : new ≡ laid_in fs old) where
      kept_is : kept_by s ≡ k
      kept_is = kept_by_lem s fs (counts s fs is)

      pub roomy : Room s new
      roomy = omega (arith, kept_is, few)

      pub noise_found : (n : Noise) → n ≡ noise (gates_in s new) (squares_in s new) (starts_by s) → n ≡ noise_in fs
      noise_found n e =
          e ∙ ap (λ (i : ℕ). noise (take i new) (take i (drop (i + 1) new)) (starts_by s)) kept_is
          ∙ ap (λ (l : List Float). noise (take k l) (take k (drop (k + 1) l)) (starts_by s)) laid
          ∙ ap (λ (g : List Float). noise g (take k (drop (k + 1) (laid_in fs old))) (starts_by s)) (gates_first fs old)
          ∙ ap (λ (o : List Float). noise (gates_of fs) o (starts_by s)) (squares_next fs old (omega (arith, few)))
          ∙ ap (λ (x : Sample). noise (gates_of fs) (squares_of fs) (starts_by x)) is

      pub passed : (n : Noise) (p : Pass) → n ≡ noise_in fs → p ≡ packed s n → p ≡ pass_of fs
      unfolding pass_of
      passed n p e f = f ∙ ap (λ (x : Sample). packed x n) is ∙ ap (λ (x : Noise). packed (sample_of fs) x) e
