-- What a call that lays a text over lent bytes says: where the text ends, and the bytes at exit.
use Rattle.std.specs.Prelude.{◌≡◌, List, ◌++◌, ℕ, ◌+◌, length, drop}
use Rattle.laws.specs.Lists.{laid}

-- from place `at` on
abbrev pub LaidTo : List ℕ → ℕ → List ℕ → ℕ → List ℕ → Type 0
LaidTo before at text end after = (end ≡ at + length text) × (after ≡ laid before at text)

-- from the front on
abbrev pub Fronted : List ℕ → List ℕ → ℕ → List ℕ → Type 0
Fronted before text end after = (end ≡ length text) × (after ≡ text ++ drop end before)
