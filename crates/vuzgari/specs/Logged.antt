-- From the noise call to the log, as C makes the calls: what becomes of an answer slice that the noise call left.
use Rattle.std.specs.Prelude.{◌≡◌, ◌↔◌, List, ◌++◌, ℕ, ◌^◌, ◌≤◌, ◌<◌, length, drop}
use Rattle.answer.specs.declared.Answer.{Answer}
use Rattle.record.specs.Records.{form_nf, fields_of, bytes_as}
use Rattle.logging.specs.Logging.{record_of_answer}
use Rattle.vuzgari.specs.Noise.{left_bytes}
use Rattle.vuzgari.specs.Records.{written_for, read_for}

-- answer a to an image of w by h, in a slice that was `before`, for a shot
pub record Logged (shot w h : ℕ) (a : Answer) (before : List ℕ) : Type 0 where
  -- it is written wherever 35 bytes are lent
  pub taken : (out : List ℕ) → ((written_for shot w h (left_bytes before a) out).number ≡ 0) ↔ (35 ≤ length out)
  -- and then the answer's record stands in front of those bytes that were beyond
  pub changes : (out : List ℕ) → 35 ≤ length out
      → (written_for shot w h (left_bytes before a) out).bytes ≡ bytes_as form_nf (record_of_answer shot w h a) ++ drop 35 out
  -- which the reading call shows as the shot, the sides and the answer's fields
  pub reads : (out fields : List ℕ) → shot < 2 ^ 32 → 35 ≤ length out → 10 ≤ length fields
      → read_for (written_for shot w h (left_bytes before a) out).bytes fields
      ≡ record { number = 0; fields = fields_of (record_of_answer shot w h a) ++ drop 10 fields }
