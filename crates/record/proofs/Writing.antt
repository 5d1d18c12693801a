-- What a write leaves, by the tests that lead there.
use mathlib.Core.Path.{◌≡◌, refl}
use mathlib.Core.Bool.{true, false}
use mathlib.Core.List.{List, ◌++◌}
use Prim.Native.Nat.{ℕ, ◌≤◌, ◌<◌}
use lib.ListN.{length, drop}
use borrow.Author.Tests.{lt-ltb, le-ltb}
use Rattle.record.specs.declared.Record.{Record}
use Rattle.record.specs.Rule.{allowed}
use Rattle.record.specs.Records.{Form, size_of, bytes_as, written_as}

module _ (f : Form) (r : Record) (out : List ℕ) where
  -- a number and bytes that are those of the write
  abbrev pub Leaves : ℕ → List ℕ → Type 0
  Leaves n l = (n ≡ (written_as f r out).number) × (l ≡ (written_as f r out).bytes)

  pub refused : allowed r ≡ false → Leaves 19 out
  unfolding written_as
  refused a = rw a (refl, refl)

  module _ (a : allowed r ≡ true) where
    pub no_room : length out < size_of f → Leaves 18 out
    unfolding written_as
    no_room h = rw (a, lt-ltb (length out) (size_of f) h) (refl, refl)

    pub done : {l : List ℕ} → size_of f ≤ length out → l ≡ bytes_as f r ++ drop (size_of f) out → Leaves 0 l
    unfolding written_as
    done h e = rw (a, le-ltb (length out) (size_of f) h) (refl, e)
