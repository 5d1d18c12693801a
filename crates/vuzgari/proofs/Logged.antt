-- What the noise call answers with 0, 5, 6 or 7 goes into the log: it leaves the answer's 40 bytes in front, and those give its record.
-- Assumes that pixels are 0 to 255.
use mathlib.Core.Path.{◌≡◌, sym, ap, ◌∙◌}
use mathlib.Core.Bool.{Bool, cond}
use mathlib.Core.List.{List, ◌++◌}
use Prim.Native.Nat.{ℕ, ◌≤◌}
use native.Mathlib.Omega.{arith}
use lib.ListN.{length, get_or, drop, length-append}
use lib.IntN.{ℤ}
use lib.Ieee.{Float}
use Rattle.answer.specs.declared.Answer.{Answer}
use Rattle.answer.specs.Fields.{answer_bytes}
use Rattle.answer.specs.Examples.{forty}
use Rattle.record.specs.Rule.{AnswerStored}
use Rattle.record.specs.Records.{form_nf, Written, written_as, read_as}
use Rattle.logging.specs.Logging.{record_from}
use Rattle.logging.specs.Recorded.{Recorded}
use Rattle.logging.proofs.Answers.{ran_of}
use Rattle.logging.proofs.Recorded.{recorded}
use Rattle.vuzgari.specs.Noise.{short_for, noise_for, left_bytes}
use Rattle.vuzgari.specs.Records.{written_for, shown_in}
use Rattle.vuzgari.specs.Logged.{Logged}
use Rattle.vuzgari.proofs.Recording.{from_40, from_10}

-- an answer with a record, left in a slice
module _ (shot w h : ℕ) (a : Answer) (before : List ℕ) (k : Recorded shot w h a) (stored : AnswerStored a.number) where
  abbrev rest : List ℕ
  rest = drop 40 before

  left : left_bytes before a ≡ answer_bytes a ++ rest
  left = ap (λ (b : Bool). cond b (answer_bytes a ++ rest) before) (ran_of a.number stored)

  writes : (out : List ℕ) → written_for shot w h (left_bytes before a) out
      ≡ written_as form_nf (record_from shot w h (answer_bytes a ++ rest)) out
  writes out =
      ap (λ (l : List ℕ). written_for shot w h l out) left
      ∙ from_40 shot w h (answer_bytes a ++ rest) out (omega (arith, length-append (answer_bytes a) rest, forty a))

  number : (out : List ℕ) → (written_for shot w h (left_bytes before a) out).number
      ≡ (written_as form_nf (record_from shot w h (answer_bytes a ++ rest)) out).number
  number out = ap (λ (x : Written). x.number) (writes out)

  bytes_left : (out : List ℕ) → (written_for shot w h (left_bytes before a) out).bytes
      ≡ (written_as form_nf (record_from shot w h (answer_bytes a ++ rest)) out).bytes
  bytes_left out = ap (λ (x : Written). x.bytes) (writes out)

  by_record : Logged shot w h a before
  by_record =
      record {
        taken = λ out. (λ e. (k.taken rest out).0 (sym (number out) ∙ e), λ l. number out ∙ (k.taken rest out).1 l);
        changes = λ out l. bytes_left out ∙ k.changes rest out l;
        reads = λ out fields n l m.
            from_10 (written_for shot w h (left_bytes before a) out).bytes fields m
            ∙ ap (λ x. shown_in fields x)
            (ap (λ (y : List ℕ). read_as form_nf y) (bytes_left out) ∙ k.reads rest out n l);
      }

-- the noise call from C, whatever it is lent
pub logged : (pixels : List ℕ) → ((i : ℕ) → get_or pixels i 0 ≤ 255) → (w h : ℕ) (ints : List ℤ) (floats : List Float)
    (before : List ℕ) (shot : ℕ)
    → AnswerStored (noise_for pixels w h ints floats before).number → Logged shot w h (noise_for pixels w h ints floats before) before
logged pixels bytes w h ints floats before shot stored =
    by_record shot w h (noise_for pixels w h ints floats before) before
    (recorded pixels bytes w h (short_for w h (length ints) (length floats) (length before)) stored shot) stored
