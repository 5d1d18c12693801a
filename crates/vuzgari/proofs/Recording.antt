-- What a record call from C leaves, by how much is lent.
use mathlib.Core.Path.{◌≡◌, refl, sym, ap, ◌∙◌}
use mathlib.Core.List.{List, ◌++◌}
use Prim.Native.Nat.{ℕ, ◌≤◌, ◌<◌}
use lib.ListN.{length, drop}
use borrow.Author.Tests.{lt-ltb, le-ltb}
use Rattle.record.specs.declared.Record.{Record}
use Rattle.std.specs.Prelude.{Result, Ok, Err}
use Rattle.numbers.specs.declared.Number.{Number}
use Rattle.numbers.specs.Numbers.{number_of}
use Rattle.record.specs.Records.{form_nf, fields_of, Written, written_as, read_as}
use Rattle.logging.specs.Logging.{record_from, SameForRecord}
use Rattle.logging.proofs.Recorded.{same_for_record}
use Rattle.vuzgari.specs.Records.{written_for, Shown, shown_in, read_for}

-- ---- writing

module _ (shot w h : ℕ) (answer out : List ℕ) where
  pub under_40 : length answer < 40 → written_for shot w h answer out ≡ record { number = 4; bytes = out }
  unfolding written_for
  under_40 l = rw (lt-ltb (length answer) 40 l) refl

  pub from_40 : 40 ≤ length answer → written_for shot w h answer out ≡ written_as form_nf (record_from shot w h answer) out
  unfolding written_for
  from_40 l = rw (le-ltb (length answer) 40 l) refl

-- milli, rounds and passes decide nothing
pub not_looked_at : (shot w h : ℕ) (answer other out : List ℕ) → 40 ≤ length answer → 40 ≤ length other
    → SameForRecord answer other → written_for shot w h answer out ≡ written_for shot w h other out
not_looked_at shot w h answer other out l m s =
    from_40 shot w h answer out l ∙ ap (λ (r : Record). written_as form_nf r out) (same_for_record shot w h s)
    ∙ sym (from_40 shot w h other out m)

-- ---- reading

module _ (bytes fields : List ℕ) where
  pub under_10 : length fields < 10 → read_for bytes fields ≡ record { number = 4; fields = fields }
  unfolding read_for
  under_10 l = rw (lt-ltb (length fields) 10 l) refl

  pub from_10 : 10 ≤ length fields → read_for bytes fields ≡ shown_in fields (read_as form_nf bytes)
  unfolding read_for
  from_10 l = rw (le-ltb (length fields) 10 l) refl
