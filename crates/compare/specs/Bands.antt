-- Four bands that end before e1, e2, e3 and the end.
use Rattle.std.specs.Prelude.{◌≡◌, List, [], ◌∷◌, ℕ, ◌≤◌, length, Float}

abbrev pub starts : List Float → ℕ → ℕ → ℕ → List ℕ
starts g e1 e2 e3 = 0 ∷ e1 ∷ e2 ∷ e3 ∷ length g ∷ []

pub record BandsInOrder (g o : List Float) (e1 e2 e3 : ℕ) : Type 0 where
  pub same : length g ≡ length o
  pub first : e1 ≤ e2
  pub second : e2 ≤ e3
  pub third : e3 ≤ length g
