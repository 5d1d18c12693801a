-- Demand 1 at the calls from C, for every argument: what the noise call answers, and that what it is lent changes exactly after
-- 0, 5, 6 and 7; which number each record call gives and exactly when, and that what it is lent changes exactly after 0.
use Rattle.std.specs.Prelude.{◌≡◌, ◌↔◌, ◌⊎◌, List, ◌++◌, ℕ, ◌≤◌, ◌<◌, length, drop, ℤ, Float}
use Rattle.grid.specs.Needed.{needed_of}
use Rattle.answer.specs.declared.Answer.{Answer}
use Rattle.answer.specs.Fields.{answer_bytes}
use Rattle.noise.specs.Call.{cleared_ints, cleared_floats, left_ints, left_floats}
use Rattle.noise.specs.Demand1.{Meets}
use Rattle.record.specs.Rule.{Allowed}
use Rattle.record.specs.Records.{form_nf, fields_of, bytes_as, record_in, Written}
use Rattle.record.specs.Demand1.{Marked}
use Rattle.logging.specs.Logging.{record_from}
use Rattle.vuzgari.specs.Noise.{short_for, noise_for, left_bytes}
use Rattle.vuzgari.specs.Records.{written_for, Shown, read_for}

-- ---- the noise call

-- what was lent for answer a
pub record Lent (a : Answer) (w h : ℕ) (ints : List ℤ) (floats : List Float) (out : List ℕ) : Type 0 where
  -- after 1 to 4 it is as it was
  pub stays : 1 ≤ a.number → a.number ≤ 4
      → (left_ints a.number w h ints ≡ ints) × (left_floats a.number w h floats ≡ floats) × (left_bytes out a ≡ out)
  -- after 0, 5, 6 and 7 the needed memory is zeros and the answer's bytes stand; what lies beyond is as it was
  pub changes : (a.number ≡ 0) ⊎ (5 ≤ a.number) × (a.number ≤ 7)
      → (left_ints a.number w h ints ≡ cleared_ints (needed_of w h) ints)
      × (left_floats a.number w h floats ≡ cleared_floats (needed_of w h) floats)
      × (left_bytes out a ≡ answer_bytes a ++ drop 40 out)

pub record Demand1AtC (pixels : List ℕ) (w h : ℕ) (ints : List ℤ) (floats : List Float) (out : List ℕ) : Type 0 where
  pub noise : Meets pixels w h (short_for w h (length ints) (length floats) (length out)) (noise_for pixels w h ints floats out)
  pub lent : Lent (noise_for pixels w h ints floats out) w h ints floats out

-- ---- the record calls

-- writing the record of a shot into `out`, from the sides and an answer slice
pub record WriteAtC (shot w h : ℕ) (answer out : List ℕ) (x : Written) : Type 0 where
  -- no other number than 0, 4, 18 and 19
  pub only : (x.number ≡ 0) ⊎ (x.number ≡ 4) ⊎ (x.number ≡ 18) ⊎ (x.number ≡ 19)
  pub four : (x.number ≡ 4) ↔ (length answer < 40)
  pub broken : (x.number ≡ 19) ↔ ((40 ≤ length answer) × (Allowed (record_from shot w h answer) → ⊥))
  pub no_room : (x.number ≡ 18) ↔ ((40 ≤ length answer) × Allowed (record_from shot w h answer) × (length out < 35))
  pub taken : (x.number ≡ 0) ↔ ((40 ≤ length answer) × Allowed (record_from shot w h answer) × (35 ≤ length out))
  -- a refused call changes no byte
  pub stays : (x.number ≡ 0 → ⊥) → x.bytes ≡ out
  -- else the record's bytes stand in front of those that were beyond
  pub changes : x.number ≡ 0 → x.bytes ≡ bytes_as form_nf (record_from shot w h answer) ++ drop 35 out

-- reading the record in front of `bytes` into lent fields
pub record ReadAtC (bytes fields : List ℕ) (x : Shown) : Type 0 where
  -- no other number than 0, 4, 17, 18 and 19
  pub only : (x.number ≡ 0) ⊎ (x.number ≡ 4) ⊎ (x.number ≡ 17) ⊎ (x.number ≡ 18) ⊎ (x.number ≡ 19)
  pub four : (x.number ≡ 4) ↔ (length fields < 10)
  pub cut_short : (x.number ≡ 18) ↔ ((10 ≤ length fields) × (length bytes < 35))
  pub mark : (x.number ≡ 17) ↔ ((10 ≤ length fields) × (35 ≤ length bytes) × (Marked form_nf bytes → ⊥))
  pub broken : (x.number ≡ 19)
      ↔ ((10 ≤ length fields) × (35 ≤ length bytes) × Marked form_nf bytes × (Allowed (record_in form_nf bytes) → ⊥))
  pub given : (x.number ≡ 0)
      ↔ ((10 ≤ length fields) × (35 ≤ length bytes) × Marked form_nf bytes × Allowed (record_in form_nf bytes))
  -- a refused call changes no field
  pub stays : (x.number ≡ 0 → ⊥) → x.fields ≡ fields
  -- else the record's ten fields stand in front of those that were beyond
  pub changes : x.number ≡ 0 → x.fields ≡ fields_of (record_in form_nf bytes) ++ drop 10 fields

abbrev pub WriteMeetsAtC : ℕ → ℕ → ℕ → List ℕ → List ℕ → Type 0
WriteMeetsAtC shot w h answer out = WriteAtC shot w h answer out (written_for shot w h answer out)

abbrev pub ReadMeetsAtC : List ℕ → List ℕ → Type 0
ReadMeetsAtC bytes fields = ReadAtC bytes fields (read_for bytes fields)
