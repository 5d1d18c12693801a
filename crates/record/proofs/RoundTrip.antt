-- Reading what was written gives the record, writing what was read gives the bytes, and bytes past a record are not read.
use mathlib.Core.Path.{◌≡◌, refl, sym, ap, ◌∙◌}
use mathlib.Core.Bool.{true, ◌&&◌}
use mathlib.Core.Logic.{inl, inr}
use mathlib.Core.List.{List, [], ◌∷◌, ◌++◌}
use Prim.Native.Nat.{ℕ, ◌≤◌, ◌<◌}
use native.Mathlib.Omega.{arith}
use lib.Dec.{eqb}
use lib.ListN.{length, get_or, take, drop, length-append, length-drop, get_or-append}
use lib.Seq.{take-add, drop-append-le}
use borrow.Author.Tests.{le-ltb}
use Rattle.laws.proofs.Each.{each_drop}
use Rattle.little_endian.specs.Bytes.{Bytes}
use Rattle.record.specs.declared.Record.{Record}
use Rattle.std.specs.Prelude.{Ok}
use Rattle.record.specs.Layout.{bytes_in, numbers_in, Fit}
use Rattle.record.specs.Rule.{AnswerStored, Allowed, allowed}
use Rattle.record.specs.Records.{Form, form_nf, size_of, fields_of, record_of, bytes_as, Written, written_as, marked, read_as}
use Rattle.record.specs.RoundTrip.{Typed}
use Rattle.record.proofs.Layouts.{length_laid, numbers_bytes, bytes_numbers, numbers_front}
use Rattle.record.proofs.Judging.{allowed_iff}
use Rattle.record.proofs.Readings.{given}
use Rattle.record.proofs.Demand1.{write_meets, read_meets}

-- ---- read after write

answer_byte : (a : ℕ) → AnswerStored a → a < 256
answer_byte a (inl e) = omega arith
answer_byte a (inr (inl e)) = omega arith
answer_byte a (inr (inr (inl e))) = omega arith
answer_byte a (inr (inr (inr e))) = omega arith

-- what the rule takes fits its bytes, so nothing is cut
pub allowed_fit : (r : Record) → Typed r → Allowed r → Fit form_nf.field_bytes (fields_of r)
unfolding Fit
allowed_fit r t a = (
  t.shot,
  (
    omega (arith, a.sides.w_most),
    (omega (arith, a.sides.h_most), (answer_byte r.answer a.answer, (t.sigma, (t.b0, (t.b1, (t.b2, (t.b3, (t.rail, tt)))))))),
  ),
)

fields_back : (r : Record) → record_of (fields_of r) ≡ r
fields_back r = refl

-- the record's bytes, whatever follows them
pub bytes_read : (r : Record) (after : List ℕ) → Fit form_nf.field_bytes (fields_of r) → allowed r ≡ true → read_as form_nf (bytes_as form_nf r ++ after) ≡ Ok r
unfolding bytes_as
bytes_read r after fit ok =
    sym (given form_nf (0x4E ∷ 0x46 ∷ (bytes_in form_nf.field_bytes (fields_of r) ++ after))
    (omega (arith, length-append (bytes_in form_nf.field_bytes (fields_of r)) after, length_laid form_nf.field_bytes (fields_of r) fit)) refl r
    (sym (ap record_of (numbers_bytes form_nf.field_bytes (fields_of r) after fit) ∙ fields_back r)) ok)

pub read_written : (r : Record) (out : List ℕ) → Typed r → (written_as form_nf r out).number ≡ 0 → read_as form_nf (written_as form_nf r out).bytes ≡ Ok r
read_written r out t e =
    let w = write_meets form_nf r out in
    let a = (w.taken.0 e).0 in
    ap (λ (l : List ℕ). read_as form_nf l) (w.changes e) ∙ bytes_read r (drop 35 out) (allowed_fit r t a) ((allowed_iff r).1 a)

-- ---- write after read

front_two : (l : List ℕ) (a b : ℕ) → 2 ≤ length l → get_or l 0 0 ≡ a → get_or l 1 0 ≡ b → a ∷ b ∷ [] ≡ take 2 l
front_two [] a b h p q = absurd (none h)
  where
    none : 2 ≤ 0 → ⊥
    none h = omega arith
front_two (x ∷ []) a b h p q = absurd (none h)
  where
    none : 2 ≤ 1 → ⊥
    none h = omega arith
front_two (x ∷ y ∷ l) a b h p q = cc

numbers_back : (l : List ℕ) → fields_of (record_of (numbers_in form_nf.field_bytes l)) ≡ numbers_in form_nf.field_bytes l
unfolding numbers_in
numbers_back l = refl

pub bytes_back : (l : List ℕ) (r : Record) → Bytes l → read_as form_nf l ≡ Ok r → bytes_as form_nf r ≡ take 35 l
unfolding bytes_as
bytes_back l r b e =
    let g = ((read_meets form_nf l).given r).0 e in
    ap (λ (x : Record). 0x4E ∷ 0x46 ∷ bytes_in form_nf.field_bytes (fields_of x)) g.3
    ∙ ap (λ (xs : List ℕ). 0x4E ∷ 0x46 ∷ bytes_in form_nf.field_bytes xs) (numbers_back (drop 2 l))
    ∙ ap (λ (xs : List ℕ). 0x4E ∷ 0x46 ∷ xs)
    (bytes_numbers form_nf.field_bytes (drop 2 l) (each_drop (λ n. n < 256) 2 l b) (omega (arith, g.0, length-drop 2 l)))
    ∙ ap (λ (xs : List ℕ). xs ++ take 33 (drop 2 l)) (front_two l 0x4E 0x46 (omega (arith, g.0)) g.1.0 g.1.1)
    ∙ sym (take-add 2 33 l)

pub written_read : (l : List ℕ) (r : Record) (out : List ℕ) → Bytes l → read_as form_nf l ≡ Ok r → 35 ≤ length out
    → written_as form_nf r out ≡ record { number = 0; bytes = take 35 l ++ drop 35 out }
written_read l r out b e h =
    let w = write_meets form_nf r out in
    let n = w.taken.1 ((((read_meets form_nf l).given r).0 e).2, h) in
    same (written_as form_nf r out) n (w.changes n ∙ ap (λ (xs : List ℕ). xs ++ drop 35 out) (bytes_back l r b e))
  where
    same : (x : Written) {m : ℕ} {k : List ℕ} → x.number ≡ m → x.bytes ≡ k → x ≡ record { number = m; bytes = k }
    same x p q = λ i. record { number = p i; bytes = q i }

-- ---- bytes past a record

marked_front : (f : Form) (l after : List ℕ) → 2 ≤ length l → marked f (l ++ after) ≡ marked f l
marked_front f l after h =
    ap (λ (n : ℕ). eqb n 0x4E && eqb (get_or (l ++ after) 1 0) f.letter) (get_or-append l after 0 0 (omega arith))
    ∙ ap (λ (n : ℕ). eqb (get_or l 0 0) 0x4E && eqb n f.letter) (get_or-append l after 0 1 (omega arith))

-- whatever follows a slice that is long enough
pub read_front : (f : Form) (l after : List ℕ) → size_of f ≤ length l → read_as f (l ++ after) ≡ read_as f l
unfolding read_as
read_front f l after h =
    rw (
      le-ltb (length (l ++ after)) (size_of f) (omega (arith, length-append l after)),
      le-ltb (length l) (size_of f) h,
      marked_front f l after (omega arith),
      drop-append-le 2 l after (omega arith),
      numbers_front f.field_bytes (drop 2 l) after (omega (arith, length-drop 2 l)),
    ) refl
