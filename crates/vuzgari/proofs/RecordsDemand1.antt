-- Demand 1 at the record calls from C: 4 is judged first, and all else is the record's own demand 1. Assumes nothing.
use mathlib.Core.Path.{◌≡◌, refl, sym, ap, subst}
use mathlib.Core.Logic.{◌⊎◌, inl, inr}
use mathlib.Core.List.{List}
use Prim.Native.Nat.{ℕ, ◌≤◌, ◌<◌}
use native.Mathlib.Omega.{arith}
use lib.ListN.{length}
use Rattle.ieee.proofs.Naturals.{le_or_lt}
use Rattle.record.specs.declared.Record.{Record}
use Rattle.std.specs.Prelude.{Result, Ok, Err}
use Rattle.numbers.specs.declared.Number.{Number}
use Rattle.numbers.specs.declared.Number.TheVariants.{OtherMark, ShortRecord, BrokenRule}
use Rattle.record.specs.Records.{form_nf, Written, written_as, record_in, read_as}
use Rattle.record.specs.Demand1.{WriteMeets, ReadMeets}
use Rattle.record.proofs.Demand1.{write_meets, read_meets}
use Rattle.logging.specs.Logging.{record_from}
use Rattle.vuzgari.specs.Records.{Shown, shown_in}
use Rattle.vuzgari.specs.Demand1.{WriteAtC, ReadAtC, WriteMeetsAtC, ReadMeetsAtC}
use Rattle.vuzgari.proofs.Recording.{under_40, from_40, under_10, from_10}

-- ---- writing

module _ (shot w h : ℕ) (answer out : List ℕ) where
  short_slice : length answer < 40 → WriteAtC shot w h answer out (record { number = 4; bytes = out })
  short_slice l =
      record {
        only = inr (inl refl);
        four = (λ _. l, λ _. refl);
        broken = (λ e. absurd (omega arith), λ p. absurd (omega (arith, p.0)));
        no_room = (λ e. absurd (omega arith), λ p. absurd (omega (arith, p.0)));
        taken = (λ e. absurd (omega arith), λ p. absurd (omega (arith, p.0)));
        stays = λ _. refl;
        changes = λ e. absurd (omega arith);
      }

  by_writer : 40 ≤ length answer → (x : Written) → WriteMeets form_nf (record_from shot w h answer) out x
      → WriteAtC shot w h answer out x
  by_writer l x m =
      record {
        only = all m.only;
        four = (λ e. absurd (not_four m.only e), λ p. absurd (omega arith));
        broken = (λ e. (l, m.broken.0 e), λ p. m.broken.1 p.1);
        no_room = (λ e. let p = m.no_room.0 e in (l, p.0, p.1), λ p. m.no_room.1 (p.1, p.2));
        taken = (λ e. let p = m.taken.0 e in (l, p.0, p.1), λ p. m.taken.1 (p.1, p.2));
        stays = m.stays;
        changes = m.changes;
      }
    where
      all : (x.number ≡ 0) ⊎ (x.number ≡ 18) ⊎ (x.number ≡ 19)
          → (x.number ≡ 0) ⊎ (x.number ≡ 4) ⊎ (x.number ≡ 18) ⊎ (x.number ≡ 19)
      all (inl e) = inl e
      all (inr e) = inr (inr e)

      not_four : (x.number ≡ 0) ⊎ (x.number ≡ 18) ⊎ (x.number ≡ 19) → x.number ≡ 4 → ⊥
      not_four (inl p) e = omega arith
      not_four (inr (inl p)) e = omega arith
      not_four (inr (inr p)) e = omega arith

  pub write_meets_at_c : WriteMeetsAtC shot w h answer out
  write_meets_at_c = elim (le_or_lt 40 (length answer)) [
    | inl l ↦ subst (WriteAtC shot w h answer out) (sym (from_40 shot w h answer out l))
        (by_writer l (written_as form_nf (record_from shot w h answer) out) (write_meets form_nf (record_from shot w h answer) out))
    | inr l ↦ subst (WriteAtC shot w h answer out) (sym (under_40 shot w h answer out l)) (short_slice l)
  ]

-- ---- reading

module _ (bytes fields : List ℕ) where
  few_fields : length fields < 10 → ReadAtC bytes fields (record { number = 4; fields = fields })
  few_fields l =
      record {
        only = inr (inl refl);
        four = (λ _. l, λ _. refl);
        cut_short = (λ e. absurd (omega arith), λ p. absurd (omega (arith, p.0)));
        mark = (λ e. absurd (omega arith), λ p. absurd (omega (arith, p.0)));
        broken = (λ e. absurd (omega arith), λ p. absurd (omega (arith, p.0)));
        given = (λ e. absurd (omega arith), λ p. absurd (omega (arith, p.0)));
        stays = λ _. refl;
        changes = λ e. absurd (omega arith);
      }

  module _ (l : 10 ≤ length fields) (x : Result Record Number) (m : ReadMeets form_nf bytes x) where
    abbrev number : ℕ
    number = (shown_in fields x).number

    abbrev found : Record
    found = record_in form_nf bytes

    shows : {y : Result Record Number} → x ≡ y → shown_in fields x ≡ shown_in fields y
    shows e = ap (shown_in fields) e

    numbers : {y : Result Record Number} → x ≡ y → number ≡ (shown_in fields y).number
    numbers e = ap (λ (s : Shown). s.number) (shows e)

    -- one of four
    by_case : {Q : Type 0} → (number ≡ 0 → x ≡ Ok found → Q) → (number ≡ 17 → x ≡ Err OtherMark → Q)
        → (number ≡ 18 → x ≡ Err ShortRecord → Q) → (number ≡ 19 → x ≡ Err BrokenRule → Q) → Q
    by_case {Q} a b c d = go m.only
      where
        go : (x ≡ Ok found) ⊎ (x ≡ Err OtherMark) ⊎ (x ≡ Err ShortRecord) ⊎ (x ≡ Err BrokenRule) → Q
        go (inl e) = a (numbers e) e
        go (inr (inl e)) = b (numbers e) e
        go (inr (inr (inl e))) = c (numbers e) e
        go (inr (inr (inr e))) = d (numbers e) e

    is_given : number ≡ 0 → x ≡ Ok found
    is_given z = by_case (λ _ e. e) (λ n _. absurd (omega arith)) (λ n _. absurd (omega arith)) (λ n _. absurd (omega arith))

    is_17 : number ≡ 17 → x ≡ Err OtherMark
    is_17 z = by_case (λ n _. absurd (omega arith)) (λ _ e. e) (λ n _. absurd (omega arith)) (λ n _. absurd (omega arith))

    is_18 : number ≡ 18 → x ≡ Err ShortRecord
    is_18 z = by_case (λ n _. absurd (omega arith)) (λ n _. absurd (omega arith)) (λ _ e. e) (λ n _. absurd (omega arith))

    is_19 : number ≡ 19 → x ≡ Err BrokenRule
    is_19 z = by_case (λ n _. absurd (omega arith)) (λ n _. absurd (omega arith)) (λ n _. absurd (omega arith)) (λ _ e. e)

    refuses : {why : Number} → x ≡ Err why → (shown_in fields x).fields ≡ fields
    refuses e = ap (λ (s : Shown). s.fields) (shows e)

    by_reader : ReadAtC bytes fields (shown_in fields x)
    by_reader =
        record {
          only = by_case (λ n _. inl n) (λ n _. inr (inr (inl n)))
              (λ n _. inr (inr (inr (inl n)))) (λ n _. inr (inr (inr (inr n))));
          four = (
            λ z. absurd (by_case {Q = ⊥} (λ n _. omega arith) (λ n _. omega arith) (λ n _. omega arith) (λ n _. omega arith)),
            λ p. absurd (omega arith),
          );
          cut_short = (λ z. (l, m.cut_short.0 (is_18 z)), λ p. numbers (m.cut_short.1 p.1));
          mark = (λ z. let p = m.mark.0 (is_17 z) in (l, p.0, p.1), λ p. numbers (m.mark.1 (p.1, p.2)));
          broken = (
            λ z. let p = m.broken.0 (is_19 z) in (l, p.0, p.1, p.2),
            λ p. numbers (m.broken.1 (p.1, p.2, p.3)),
          );
          given = (
            λ z. let p = (m.given found).0 (is_given z) in (l, p.0, p.1, p.2),
            λ p. numbers ((m.given found).1 (p.1, p.2, p.3, refl)),
          );
          stays = λ z. by_case (λ n _. absurd (z n)) (λ _ e. refuses e) (λ _ e. refuses e) (λ _ e. refuses e);
          changes = λ z. ap (λ (s : Shown). s.fields) (shows (is_given z));
        }

  pub read_meets_at_c : ReadMeetsAtC bytes fields
  read_meets_at_c = elim (le_or_lt 10 (length fields)) [
    | inl l ↦ subst (ReadAtC bytes fields) (sym (from_10 bytes fields l))
        (by_reader l (read_as form_nf bytes) (read_meets form_nf bytes))
    | inr l ↦ subst (ReadAtC bytes fields) (sym (under_10 bytes fields l)) (few_fields l)
  ]
