-- Demand 1 for records: both calls, of any form.
use mathlib.Core.Path.{◌≡◌, refl, sym, ap, ◌∙◌, subst}
use mathlib.Core.Bool.{Bool, true, false, true≢false}
use mathlib.Core.Logic.{◌↔◌, ◌⊎◌, inl, inr}
use mathlib.Core.List.{List}
use Prim.Native.Nat.{ℕ, ◌≤◌, ◌<◌}
use native.Mathlib.Omega.{arith}
use lib.Dec.{eqb}
use lib.ListN.{length, get_or}
use borrow.Author.Tests.{eq-eqb, eqb-true}
use Rattle.laws.proofs.Refusing.{and_left, and_right}
use Rattle.ieee.proofs.Naturals.{le_or_lt}
use Rattle.std.specs.Prelude.{Ok}
use Rattle.record.specs.declared.Record.{Record}
use Rattle.record.specs.Rule.{Allowed, allowed}
use Rattle.record.specs.Records.{Form, size_of, Written, written_as, marked, record_in, read_as}
use Rattle.record.specs.Demand1.{Marked, WriteMeets, ReadMeets}
use Rattle.record.proofs.Judging.{allowed_iff}
use Rattle.record.proofs.Readings.{cut_short, foreign, broken, given}
use Rattle.record.proofs.Writing.{refused, no_room, done}

-- a test that fails, in words
pub not_words : {P : Type 0} (b : Bool) → (b ≡ true) ↔ P → b ≡ false → P → ⊥
not_words b i e p = true≢false (sym (i.1 p) ∙ e)

pub marked_iff : (f : Form) (l : List ℕ) → (marked f l ≡ true) ↔ Marked f l
marked_iff f l = (
  λ e. (eqb-true (get_or l 0 0) 0x4E (and_left _ (eqb (get_or l 1 0) f.letter) e), eqb-true (get_or l 1 0) f.letter (and_right (eqb (get_or l 0 0) 0x4E) _ e)),
  λ m. rw (eq-eqb (get_or l 0 0) 0x4E m.0, eq-eqb (get_or l 1 0) f.letter m.1) refl,
)

-- ---- writing

module _ (f : Form) (r : Record) (out : List ℕ) where
  by_number : (w : Written) (n : ℕ) → w.number ≡ n → (n ≡ 0 → ⊥) → (n ≡ 18) ⊎ (n ≡ 19) → (n ≡ 19) ↔ (Allowed r → ⊥)
      → (n ≡ 18) ↔ (Allowed r × (length out < size_of f)) → (Allowed r × (size_of f ≤ length out) → ⊥) → w.bytes ≡ out → WriteMeets f r out w
  by_number w n e z o b s t k =
      record {
        only = elim o [ inl p ↦ inr (inl (e ∙ p)) | inr p ↦ inr (inr (e ∙ p)) ];
        broken = (λ p. b.0 (sym e ∙ p), λ p. e ∙ b.1 p);
        no_room = (λ p. s.0 (sym e ∙ p), λ p. e ∙ s.1 p);
        taken = (λ p. absurd (z (sym e ∙ p)), λ p. absurd (t p));
        stays = λ _. k;
        changes = λ p. absurd (z (sym e ∙ p));
      }

  pub write_meets : WriteMeets f r out (written_as f r out)
  write_meets = by_rule (allowed r) refl
    where
      by_rule : (b : Bool) → allowed r ≡ b → WriteMeets f r out (written_as f r out)
      by_rule false a =
          let no = not_words (allowed r) (allowed_iff r) a in
          let left = refused f r out a in
          by_number (written_as f r out) 19 (sym left.0) (λ p. omega arith) (inr refl) (λ _. no, λ _. refl)
          (λ p. absurd (omega arith), λ p. absurd (no p.0)) (λ p. no p.0) (sym left.1)
      by_rule true a =
          let yes = (allowed_iff r).0 a in
          elim (le_or_lt (size_of f) (length out)) [
            | inr h ↦
                let left = no_room f r out a h in
                by_number (written_as f r out) 18 (sym left.0) (λ p. omega arith) (inl refl) (λ p. absurd (omega arith), λ p. absurd (p yes))
                (λ _. (yes, h), λ _. refl) (λ p. omega (arith, p.1)) (sym left.1)
            | inl h ↦
                let left = done f r out a h refl in
                let e = sym left.0 in
                record {
                  only = inl e;
                  broken = (λ p. absurd (omega (arith, e, p)), λ p. absurd (p yes));
                  no_room = (λ p. absurd (omega (arith, e, p)), λ p. absurd (omega (arith, p.1)));
                  taken = (λ _. (yes, h), λ _. e);
                  stays = λ p. absurd (p e);
                  changes = λ _. sym left.1;
                }
          ]

-- ---- reading

module _ (f : Form) (l : List ℕ) where
  pub read_meets : ReadMeets f l (read_as f l)
  read_meets = elim (le_or_lt (size_of f) (length l)) [ inl h ↦ by_mark h (marked f l) refl | inr h ↦ too_short h ]
    where
      too_short : length l < size_of f → ReadMeets f l (read_as f l)
      too_short h =
          let e = sym (cut_short f l h) in
          record {
            only = inr (inr (inl e));
            cut_short = (λ _. h, λ _. e);
            mark = (λ p. absurd (cc), λ p. absurd (omega (arith, p.0)));
            broken = (λ p. absurd (cc), λ p. absurd (omega (arith, p.0)));
            given = λ r. (λ p. absurd (cc), λ p. absurd (omega (arith, p.0)));
          }

      by_rule : size_of f ≤ length l → marked f l ≡ true → (b : Bool) → allowed (record_in f l) ≡ b → ReadMeets f l (read_as f l)
      by_rule h m false a =
          let e = sym (broken f l h m (record_in f l) refl a) in
          let no = not_words (allowed (record_in f l)) (allowed_iff (record_in f l)) a in
          record {
            only = inr (inr (inr e));
            cut_short = (λ p. absurd (cc), λ p. absurd (omega (arith, p)));
            mark = (λ p. absurd (cc), λ p. absurd (p.1 ((marked_iff f l).0 m)));
            broken = (λ _. (h, (marked_iff f l).0 m, no), λ _. e);
            given = λ r. (λ p. absurd (cc), λ p. absurd (no (subst Allowed p.3 p.2)));
          }
      by_rule h m true a =
          let e = sym (given f l h m (record_in f l) refl a) in
          let yes = (allowed_iff (record_in f l)).0 a in
          record {
            only = inl e;
            cut_short = (λ p. absurd (cc), λ p. absurd (omega (arith, p)));
            mark = (λ p. absurd (cc), λ p. absurd (p.1 ((marked_iff f l).0 m)));
            broken = (λ p. absurd (cc), λ p. absurd (p.2 yes));
            given = λ r. (
              λ p. let s : record_in f l ≡ r = cc in (h, (marked_iff f l).0 m, subst Allowed s yes, sym s),
              λ p. e ∙ ap (λ (x : Record). Ok x) (sym p.3),
            );
          }

      by_mark : size_of f ≤ length l → (b : Bool) → marked f l ≡ b → ReadMeets f l (read_as f l)
      by_mark h false m =
          let e = sym (foreign f l h m) in
          let no = not_words (marked f l) (marked_iff f l) m in
          record {
            only = inr (inl e);
            cut_short = (λ p. absurd (cc), λ p. absurd (omega (arith, p)));
            mark = (λ _. (h, no), λ _. e);
            broken = (λ p. absurd (cc), λ p. absurd (no p.1));
            given = λ r. (λ p. absurd (cc), λ p. absurd (no p.1));
          }
      by_mark h true m = by_rule h m (allowed (record_in f l)) refl
