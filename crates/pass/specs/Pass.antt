-- One pass, from the figures of its windows alone: document 01, "Bands", "Rounds" and "Joining".
use Rattle.std.specs.Prelude.{List, [], ◌∷◌, ℕ, ◌+◌, length, Option}
use Rattle.window.specs.declared.WindowStats.{WindowStats}
use Rattle.band.specs.Bands.{sample_of}
use Rattle.sample.specs.Laid.{gates_of, squares_of}
use Rattle.band.specs.declared.Sample.{Sample}
use Rattle.rounds.specs.Rounds.{image_variance}
use Rattle.rounds.specs.declared.Settled.{Settled}
use Rattle.rounds.specs.declared.Found.{Found}
use Rattle.joining.specs.Joining.{variances, joined_bands, founds, noise}
use Rattle.joining.specs.declared.Noise.{Noise}
use Rattle.pass.specs.declared.Pass.{Pass}

-- how many windows the bands keep
abbrev pub kept_by : Sample → ℕ
kept_by s = s.b0 + s.b1 + s.b2 + s.b3

-- where each band starts among them, and where the last one ends
abbrev pub starts_by : Sample → List ℕ
starts_by s = 0 ∷ s.b0 ∷ (s.b0 + s.b1) ∷ (s.b0 + s.b1 + s.b2) ∷ kept_by s ∷ []

-- the noise of the bands
abbrev pub noise_in : List WindowStats → Noise
noise_in fs = noise (gates_of fs) (squares_of fs) (starts_by (sample_of fs))

-- counts and noise as one record
abbrev pub packed : Sample → Noise → Pass
packed s n =
    record {
      sigma = n.sigma;
      rounds = n.rounds;
      b0 = s.b0;
      b1 = s.b1;
      b2 = s.b2;
      b3 = s.b3;
      rail = s.rail;
    }

-- what a pass finds
unfoldable pub pass_of : List WindowStats → Pass
pass_of fs = packed (sample_of fs) (noise_in fs)

-- ---- what its number rests on

-- the image-wide variance
abbrev pub image_in : List WindowStats → Settled
image_in fs = image_variance (gates_of fs) (squares_of fs) (starts_by (sample_of fs))

-- the variances that its bands have or lack
abbrev pub founds_in : List WindowStats → List (Option Found)
founds_in fs = founds (gates_of fs) (squares_of fs) (starts_by (sample_of fs)) (image_in fs).var

-- how many bands have one, and how many windows those that are joined hold
abbrev pub found_by : List WindowStats → ℕ
found_by fs = length (variances (founds_in fs))

abbrev pub held_by : List WindowStats → ℕ
held_by fs = (joined_bands (founds_in fs)).n
