-- Every answer of the noise call with 0, 5, 6 or 7 has a record: its bytes hold its fields, and the writer takes its record.
use mathlib.Core.Path.{◌≡◌, refl, sym, ap, ◌∙◌, subst}
use mathlib.Core.Bool.{Bool}
use mathlib.Core.Logic.{◌↔◌}
use mathlib.Core.List.{List, ◌++◌}
use Prim.Native.Nat.{ℕ, ◌^◌, ◌≤◌, ◌<◌}
use lib.ListN.{length, get_or}
use lib.Seq.{slice}
use lib.Ieee.{binary32, to_bits}
use Rattle.little_endian.specs.Bytes.{bytes_of, value_of}
use Rattle.little_endian.proofs.Laws.{value_bytes}
use Rattle.answer.specs.declared.Answer.{Answer}
use Rattle.answer.specs.Fields.{bytes_of_words, answer_bytes}
use Rattle.noise.specs.Call.{noise_of}
use Rattle.record.specs.Rule.{AnswerStored, Allowed}
use Rattle.record.specs.Records.{form_nf, size_of, written_as, read_as}
use Rattle.record.specs.declared.Record.{Record}
use Rattle.record.specs.Demand1.{WriteMeets}
use Rattle.record.specs.RoundTrip.{Typed}
use Rattle.record.proofs.Demand1.{write_meets}
use Rattle.record.proofs.RoundTrip.{read_written}
use Rattle.logging.specs.Logging.{record_of_answer, record_from, SameForRecord}
use Rattle.logging.specs.Recorded.{Recorded}
use Rattle.logging.proofs.Answers.{keeps_rule, number_fits, sigma_fits, counts_fit}

-- what a record does not keep is not looked at
pub same_for_record : (shot w h : ℕ) {l m : List ℕ} → SameForRecord l m → record_from shot w h l ≡ record_from shot w h m
same_for_record shot w h s =
    λ i. record {
      shot = shot;
      width = w;
      height = h;
      answer = s.number i;
      sigma = s.sigma i;
      b0 = s.b0 i;
      b1 = s.b1 i;
      b2 = s.b2 i;
      b3 = s.b3 i;
      rail = s.rail i;
    }

-- the bytes of an answer at the places of what a record keeps
places : (a : Answer) (rest : List ℕ)
    → (slice 0 4 (answer_bytes a ++ rest) ≡ bytes_of 4 a.number)
    × (slice 4 8 (answer_bytes a ++ rest) ≡ bytes_of 4 (to_bits binary32 a.sigma))
    × (slice 12 16 (answer_bytes a ++ rest) ≡ bytes_of 4 a.b0) × (slice 16 20 (answer_bytes a ++ rest) ≡ bytes_of 4 a.b1)
    × (slice 20 24 (answer_bytes a ++ rest) ≡ bytes_of 4 a.b2) × (slice 24 28 (answer_bytes a ++ rest) ≡ bytes_of 4 a.b3)
    × (slice 28 32 (answer_bytes a ++ rest) ≡ bytes_of 4 a.rail)
unfolding bytes_of_words bytes_of
places a rest = (refl, refl, refl, refl, refl, refl, refl)

module _ (img : List ℕ) (bytes : (i : ℕ) → get_or img i 0 ≤ 255) (w h : ℕ) (short : Bool)
    (stored : AnswerStored (noise_of img w h short).number) (shot : ℕ) where
  abbrev a : Answer
  a = noise_of img w h short

  same : (rest : List ℕ) → record_from shot w h (answer_bytes a ++ rest) ≡ record_of_answer shot w h a
  same rest =
      let p = places a rest in
      let f = counts_fit img bytes w h short stored in
      λ i. record {
        shot = shot;
        width = w;
        height = h;
        answer = (ap value_of p.0 ∙ value_bytes 4 a.number (number_fits img bytes w h short stored)) i;
        sigma = (ap value_of p.1 ∙ value_bytes 4 (to_bits binary32 a.sigma) (sigma_fits img bytes w h short stored)) i;
        b0 = (ap value_of p.2 ∙ value_bytes 4 a.b0 f.0) i;
        b1 = (ap value_of p.3 ∙ value_bytes 4 a.b1 f.1) i;
        b2 = (ap value_of p.4 ∙ value_bytes 4 a.b2 f.2) i;
        b3 = (ap value_of p.5 ∙ value_bytes 4 a.b3 f.3) i;
        rail = (ap value_of p.6 ∙ value_bytes 4 a.rail f.4) i;
      }

  pub recorded : Recorded shot w h a
  recorded =
      record {
        allowed = rule;
        same = same;
        taken = λ rest out.
            subst (λ (r : Record). ((written_as form_nf r out).number ≡ 0) ↔ (size_of form_nf ≤ length out)) (sym (same rest))
            (taken out);
        changes = λ rest out l.
            ap (λ (r : Record). (written_as form_nf r out).bytes) (same rest) ∙ (writes out).changes ((writes out).taken.1 (rule, l));
        reads = λ rest out n l.
            ap (λ (r : Record). read_as form_nf (written_as form_nf r out).bytes) (same rest)
            ∙ read_written (record_of_answer shot w h a) out (typed n) ((writes out).taken.1 (rule, l));
      }
    where
      rule : Allowed (record_of_answer shot w h a)
      rule = keeps_rule img bytes w h short stored shot

      typed : shot < 2 ^ 32 → Typed (record_of_answer shot w h a)
      typed n =
          let f = counts_fit img bytes w h short stored in
          record {
            shot = n;
            sigma = sigma_fits img bytes w h short stored;
            b0 = f.0;
            b1 = f.1;
            b2 = f.2;
            b3 = f.3;
            rail = f.4;
          }

      writes : (out : List ℕ)
          → WriteMeets form_nf (record_of_answer shot w h a) out (written_as form_nf (record_of_answer shot w h a) out)
      writes out = write_meets form_nf (record_of_answer shot w h a) out

      taken : (out : List ℕ) → ((written_as form_nf (record_of_answer shot w h a) out).number ≡ 0) ↔ (size_of form_nf ≤ length out)
      taken out = (λ e. ((writes out).taken.0 e).1, λ l. (writes out).taken.1 (rule, l))
