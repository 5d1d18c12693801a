-- The record calls as C makes them: the number, and what each leaves in the slice that it may change.
use Rattle.std.specs.Prelude.{cond, List, ◌++◌, ℕ, ltb, length, drop, Result, Ok, Err}
use Rattle.numbers.specs.declared.Number.{Number}
use Rattle.numbers.specs.Numbers.{number_of}
use Rattle.record.specs.declared.Record.{Record}
use Rattle.record.specs.Records.{form_nf, fields_of, Written, written_as, read_as}
use Rattle.logging.specs.Logging.{record_from}

-- 4 where the answer slice is under 40 bytes; else the record of its bytes, written
unfoldable pub written_for : ℕ → ℕ → ℕ → List ℕ → List ℕ → Written
written_for shot w h answer out =
    cond (ltb (length answer) 40) (record { number = 4; bytes = out }) (written_as form_nf (record_from shot w h answer) out)

-- a number, 0 for none, and the lent fields as they are then
pub record Shown : Type 0 where
  pub number : ℕ
  pub fields : List ℕ

-- a record's ten fields and those beyond as they were, or a number and all as it was
abbrev pub shown_in : List ℕ → Result Record Number → Shown
shown_in fields (Ok r) = record { number = 0; fields = fields_of r ++ drop 10 fields }
shown_in fields (Err why) = record { number = number_of why; fields = fields }

-- 4 where under ten fields are lent; else what the bytes hold
unfoldable pub read_for : List ℕ → List ℕ → Shown
read_for bytes fields =
    cond (ltb (length fields) 10) (record { number = 4; fields = fields }) (shown_in fields (read_as form_nf bytes))
