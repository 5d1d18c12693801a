-- What only the code's steps need: the parts of the f32 slice that the rounds take, and numbers that fit 32 bits.
use Rattle.std.specs.Prelude.{List, ◌+◌, ◌*◌, ◌^◌, ◌≤◌, ◌<◌, length, take, drop, Float}
use Rattle.band.specs.declared.Sample.{Sample}
use Rattle.joining.specs.declared.Noise.{Noise}
use Rattle.pass.specs.Pass.{kept_by}

-- the gates, one spare place and the squared outputs
abbrev pub gates_in : Sample → List Float → List Float
gates_in s floats = take (kept_by s) floats

abbrev pub squares_in : Sample → List Float → List Float
squares_in s floats = take (kept_by s) (drop (kept_by s + 1) floats)

abbrev pub Room : Sample → List Float → Type 0
Room s floats = 2 * kept_by s + 1 ≤ length floats

-- numbers of 32 bits
pub record Small (s : Sample) (n : Noise) : Type 0 where
  pub b0 : s.b0 < 2 ^ 32
  pub b1 : s.b1 < 2 ^ 32
  pub b2 : s.b2 < 2 ^ 32
  pub b3 : s.b3 < 2 ^ 32
  pub rail : s.rail < 2 ^ 32
  pub rounds : n.rounds < 2 ^ 32
