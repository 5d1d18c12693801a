-- Demand 1 for records, for every argument: which number each call gives and exactly when.
use Rattle.std.specs.Prelude.{◌≡◌, ◌↔◌, ◌⊎◌, List, ◌++◌, ℕ, ◌≤◌, ◌<◌, length, get_or, drop, Result, Ok, Err}
use Rattle.numbers.specs.declared.Number.{Number}
use Rattle.numbers.specs.declared.Number.TheVariants.{OtherMark, ShortRecord, BrokenRule}
use Rattle.record.specs.declared.Record.{Record}
use Rattle.record.specs.Rule.{Allowed}
use Rattle.record.specs.Records.{Form, size_of, bytes_as, Written, record_in}

-- the first two bytes are the mark
abbrev pub Marked : Form → List ℕ → Type 0
Marked f l = (get_or l 0 0 ≡ 0x4E) × (get_or l 1 0 ≡ f.letter)

-- a write of record r into `out`
pub record WriteMeets (f : Form) (r : Record) (out : List ℕ) (w : Written) : Type 0 where
  -- no other number than 0, 18 and 19
  pub only : (w.number ≡ 0) ⊎ (w.number ≡ 18) ⊎ (w.number ≡ 19)
  pub broken : (w.number ≡ 19) ↔ (Allowed r → ⊥)
  pub no_room : (w.number ≡ 18) ↔ (Allowed r × (length out < size_of f))
  pub taken : (w.number ≡ 0) ↔ (Allowed r × (size_of f ≤ length out))
  -- a refused write changes no byte
  pub stays : (w.number ≡ 0 → ⊥) → w.bytes ≡ out
  -- else the record's bytes stand in front of those that were beyond
  pub changes : w.number ≡ 0 → w.bytes ≡ bytes_as f r ++ drop (size_of f) out

-- a reading of bytes
pub record ReadMeets (f : Form) (l : List ℕ) (x : Result Record Number) : Type 0 where
  -- a record, or no other number than 17, 18 and 19
  pub only : (x ≡ Ok (record_in f l)) ⊎ (x ≡ Err OtherMark) ⊎ (x ≡ Err ShortRecord) ⊎ (x ≡ Err BrokenRule)
  pub cut_short : (x ≡ Err ShortRecord) ↔ (length l < size_of f)
  pub mark : (x ≡ Err OtherMark) ↔ ((size_of f ≤ length l) × (Marked f l → ⊥))
  pub broken : (x ≡ Err BrokenRule) ↔ ((size_of f ≤ length l) × Marked f l × (Allowed (record_in f l) → ⊥))
  pub given : (r : Record) → (x ≡ Ok r) ↔ ((size_of f ≤ length l) × Marked f l × Allowed r × (r ≡ record_in f l))
