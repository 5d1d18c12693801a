-- The bytes of a record, what bytes hold, and what a write leaves: over the form, a mark and how many bytes each field takes.
use Rattle.std.specs.Prelude.{Bool, cond, ◌&&◌, List, [], ◌∷◌, ◌++◌, ℕ, ◌+◌, ltb, eqb, length, get_or, drop, Result, Ok, Err}
use Rattle.numbers.specs.declared.Number.{Number}
use Rattle.numbers.specs.declared.Number.TheVariants.{OtherMark, ShortRecord, BrokenRule}
use Rattle.record.specs.Layout.{bytes_in, numbers_in, byte_sum}
use Rattle.record.specs.Rule.{allowed}
use Rattle.record.specs.declared.Record.{Record}

-- ---- forms

-- the second byte of the mark, whose first is 4E, and how many bytes each field of a record takes
pub record Form : Type 0 where
  pub letter : ℕ
  pub field_bytes : List ℕ

-- mark 4E 46, which is NF in ASCII
abbrev pub form_nf : Form
form_nf = record { letter = 0x46; field_bytes = 4 ∷ 2 ∷ 2 ∷ 1 ∷ 4 ∷ 4 ∷ 4 ∷ 4 ∷ 4 ∷ 4 ∷ [] }

abbrev pub size_of : Form → ℕ
size_of f = 2 + byte_sum f.field_bytes

-- ---- a record as numbers

-- in the order of its bytes
abbrev pub fields_of : Record → List ℕ
fields_of r = r.shot ∷ r.width ∷ r.height ∷ r.answer ∷ r.sigma ∷ r.b0 ∷ r.b1 ∷ r.b2 ∷ r.b3 ∷ r.rail ∷ []

abbrev pub record_of : List ℕ → Record
record_of xs =
    record {
      shot = get_or xs 0 0;
      width = get_or xs 1 0;
      height = get_or xs 2 0;
      answer = get_or xs 3 0;
      sigma = get_or xs 4 0;
      b0 = get_or xs 5 0;
      b1 = get_or xs 6 0;
      b2 = get_or xs 7 0;
      b3 = get_or xs 8 0;
      rail = get_or xs 9 0;
    }

-- ---- writing

unfoldable pub bytes_as : Form → Record → List ℕ
bytes_as f r = 0x4E ∷ f.letter ∷ bytes_in f.field_bytes (fields_of r)

-- a number, 0 for none, and the lent bytes as they are then
pub record Written : Type 0 where
  pub number : ℕ
  pub bytes : List ℕ

-- 19, then 18; else the record's bytes and those beyond as they were
unfoldable pub written_as : Form → Record → List ℕ → Written
written_as f r out =
    cond (allowed r)
    (cond (ltb (length out) (size_of f)) (record { number = 18; bytes = out })
    (record { number = 0; bytes = bytes_as f r ++ drop (size_of f) out }))
    (record { number = 19; bytes = out })

-- ---- reading

abbrev pub marked : Form → List ℕ → Bool
marked f l = eqb (get_or l 0 0) 0x4E && eqb (get_or l 1 0) f.letter

-- what stands behind the mark
abbrev pub record_in : Form → List ℕ → Record
record_in f l = record_of (numbers_in f.field_bytes (drop 2 l))

abbrev pub judged : Record → Result Record Number
judged r = cond (allowed r) (Ok r) (Err BrokenRule)

-- 18, then 17, then 19; else the record
unfoldable pub read_as : Form → List ℕ → Result Record Number
read_as f l = cond (ltb (length l) (size_of f)) (Err ShortRecord) (cond (marked f l) (judged (record_in f l)) (Err OtherMark))
