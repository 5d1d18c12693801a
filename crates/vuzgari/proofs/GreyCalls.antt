-- What the header's call from C leaves, by how many fields are lent.
use mathlib.Core.Path.{◌≡◌, refl, sym, ap, ◌∙◌}
use mathlib.Core.List.{List, [], ◌∷◌, ◌++◌}
use Prim.Native.Nat.{ℕ, ◌≤◌, ◌<◌}
use lib.ListN.{length, drop}
use Rattle.std.specs.Prelude.{Option, Some, None}
use borrow.Author.Tests.{lt-ltb, le-ltb}
use Rattle.pgm.specs.declared.Head.{Head}
use Rattle.pgm.specs.Read.{head_of}
use Rattle.vuzgari.specs.Records.{Shown}
use Rattle.vuzgari.specs.Grey.{header_shown, header_in}

module _ (front fields : List ℕ) where
  pub under_4 : length fields < 4 → header_in front fields ≡ record { number = 4; fields = fields }
  unfolding header_in
  under_4 l = rw (lt-ltb (length fields) 4 l) refl

  pub from_4 : 4 ≤ length fields → header_in front fields ≡ header_shown fields (head_of front)
  unfolding header_in
  from_4 l = rw (le-ltb (length fields) 4 l) refl
