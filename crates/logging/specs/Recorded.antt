-- Nothing is lost between the noise call and the log: what a writer makes of an answer with 0, 5, 6 or 7.
use Rattle.std.specs.Prelude.{◌≡◌, ◌↔◌, List, ◌++◌, ℕ, ◌^◌, ◌≤◌, ◌<◌, length, drop, Ok}
use Rattle.answer.specs.declared.Answer.{Answer}
use Rattle.answer.specs.Fields.{answer_bytes}
use Rattle.record.specs.Rule.{Allowed}
use Rattle.record.specs.Records.{form_nf, size_of, bytes_as, written_as, read_as}
use Rattle.logging.specs.Logging.{record_of_answer, record_from}

-- of a shot and an answer a to an image of w by h
pub record Recorded (shot w h : ℕ) (a : Answer) : Type 0 where
  -- its record keeps the rule
  pub allowed : Allowed (record_of_answer shot w h a)
  -- the answer's 40 bytes give the same record, whatever stands beyond them
  pub same : (rest : List ℕ) → record_from shot w h (answer_bytes a ++ rest) ≡ record_of_answer shot w h a
  -- the writer takes it wherever 35 bytes are lent
  pub taken : (rest out : List ℕ)
      → ((written_as form_nf (record_from shot w h (answer_bytes a ++ rest)) out).number ≡ 0) ↔ (size_of form_nf ≤ length out)
  -- and then the answer's record stands in front of those bytes that were beyond
  pub changes : (rest out : List ℕ) → size_of form_nf ≤ length out
      → (written_as form_nf (record_from shot w h (answer_bytes a ++ rest)) out).bytes
      ≡ bytes_as form_nf (record_of_answer shot w h a) ++ drop (size_of form_nf) out
  -- which reads back as the answer's record, a shot being a number of 32 bits
  pub reads : (rest out : List ℕ) → shot < 2 ^ 32 → size_of form_nf ≤ length out
      → read_as form_nf (written_as form_nf (record_from shot w h (answer_bytes a ++ rest)) out).bytes
      ≡ Ok (record_of_answer shot w h a)
