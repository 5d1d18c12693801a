-- What is read, by the tests that lead there.
use mathlib.Core.Path.{◌≡◌, refl, sym, ap, ◌∙◌}
use mathlib.Core.Bool.{true, false}
use mathlib.Core.List.{List}
use Prim.Native.Nat.{ℕ, ◌≤◌, ◌<◌}
use lib.ListN.{length}
use borrow.Author.Tests.{lt-ltb, le-ltb}
use Rattle.record.specs.declared.Record.{Record}
use Rattle.std.specs.Prelude.{Ok, Err}
use Rattle.numbers.specs.declared.Number.TheVariants.{OtherMark, ShortRecord, BrokenRule}
use Rattle.record.specs.Rule.{allowed}
use Rattle.record.specs.Records.{Form, size_of, marked, record_in, read_as}

module _ (f : Form) (l : List ℕ) where
  pub cut_short : length l < size_of f → Err ShortRecord ≡ read_as f l
  unfolding read_as
  cut_short h = rw (lt-ltb (length l) (size_of f) h) refl

  module _ (h : size_of f ≤ length l) where
    pub foreign : marked f l ≡ false → Err OtherMark ≡ read_as f l
    unfolding read_as
    foreign m = rw (le-ltb (length l) (size_of f) h, m) refl

    module _ (m : marked f l ≡ true) (r : Record) (e : r ≡ record_in f l) where
      pub broken : allowed r ≡ false → Err BrokenRule ≡ read_as f l
      unfolding read_as
      broken a = rw (le-ltb (length l) (size_of f) h, m, ap (λ (x : Record). allowed x) (sym e) ∙ a) refl

      pub given : allowed r ≡ true → Ok r ≡ read_as f l
      unfolding read_as
      given a = rw (le-ltb (length l) (size_of f) h, m, ap (λ (x : Record). allowed x) (sym e) ∙ a) (ap (λ (x : Record). Ok x) e)
