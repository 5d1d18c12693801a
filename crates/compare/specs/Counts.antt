-- Counts at the front of a slice of numbers.
use Rattle.std.specs.Prelude.{List, [], ◌∷◌, ◌++◌, ℕ, drop}
use Rattle.band.specs.declared.Sample.{Sample}

unfoldable pub counts_in : Sample → List ℕ → List ℕ
counts_in s old = (s.b0 ∷ s.b1 ∷ s.b2 ∷ s.b3 ∷ s.rail ∷ []) ++ drop 5 old
