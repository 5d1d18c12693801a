-- The record of a shot from what the noise call answered: its number, sigma's bits, the bands and the rail. Milli, rounds and
-- passes are not kept.
use Rattle.std.specs.Prelude.{◌≡◌, List, ℕ, ◌+◌, ◌*◌}
use Rattle.std.proofs.Math.Seq.{slice}
use Rattle.std.specs.Float.{binary32}
use Rattle.std.specs.Float.Ieee.{to_bits}
use Rattle.little_endian.specs.Bytes.{value_of}
use Rattle.answer.specs.declared.Answer.{Answer}
use Rattle.record.specs.declared.Record.{Record}

abbrev pub record_of_answer : ℕ → ℕ → ℕ → Answer → Record
record_of_answer shot w h a =
    record {
      shot = shot;
      width = w;
      height = h;
      answer = a.number;
      sigma = to_bits binary32 a.sigma;
      b0 = a.b0;
      b1 = a.b1;
      b2 = a.b2;
      b3 = a.b3;
      rail = a.rail;
    }

-- field k of an answer's bytes
abbrev pub field_at : List ℕ → ℕ → ℕ
field_at bytes k = value_of (slice (4 * k) (4 * k + 4) bytes)

-- the same record from the answer's bytes, which have sigma at 1 and the bands from 3 on
abbrev pub record_from : ℕ → ℕ → ℕ → List ℕ → Record
record_from shot w h bytes =
    record {
      shot = shot;
      width = w;
      height = h;
      answer = field_at bytes 0;
      sigma = field_at bytes 1;
      b0 = field_at bytes 3;
      b1 = field_at bytes 4;
      b2 = field_at bytes 5;
      b3 = field_at bytes 6;
      rail = field_at bytes 7;
    }

-- two answer slices with the same number, sigma, bands and rail, whatever else they hold
pub record SameForRecord (l m : List ℕ) : Type 0 where
  pub number : field_at l 0 ≡ field_at m 0
  pub sigma : field_at l 1 ≡ field_at m 1
  pub b0 : field_at l 3 ≡ field_at m 3
  pub b1 : field_at l 4 ≡ field_at m 4
  pub b2 : field_at l 5 ≡ field_at m 5
  pub b3 : field_at l 6 ≡ field_at m 6
  pub rail : field_at l 7 ≡ field_at m 7
