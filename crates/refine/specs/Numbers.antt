-- Which numbers a call can answer.
use Rattle.std.specs.Prelude.{ℕ, ◌≡◌, List, [], ◌∷◌, ◌⊎◌}

-- n is one of them
abbrev pub OneOf : List ℕ → ℕ → Type 0
OneOf [] n = ⊥
OneOf (k ∷ l) n = (n ≡ k) ⊎ OneOf l n
