-- The subset of binary PGM that document 02 takes (A.2), as propositions on lists of bytes.
use Rattle.std.specs.Prelude.{ℕ, ◌+◌, ◌*◌, ◌-◌, ◌≤◌, ◌≡◌, ◌⊎◌, List, [], ◌∷◌, ◌++◌, length, get_or}

-- hex 20, 09, 0D or 0A
abbrev pub White : ℕ → Type 0
White b = (b ≡ 32) ⊎ ((b ≡ 9) ⊎ ((b ≡ 13) ⊎ (b ≡ 10)))

-- a byte from 0 to 9 in ASCII
abbrev pub Digit : ℕ → Type 0
Digit b = (48 ≤ b) × (b ≤ 57)

abbrev pub Digits : List ℕ → Type 0
Digits [] = Unit {0}
Digits (b ∷ d) = Digit b × Digits d

-- 1 to 5 decimal digits, the first not 0
pub record Numeral (d : List ℕ) : Type 0 where
  pub digits : Digits d
  pub some : 1 ≤ length d
  pub few : length d ≤ 5
  pub first : get_or d 0 0 ≡ 48 → ⊥

-- the number that digits write, those of v standing before them
abbrev pub number_after : ℕ → List ℕ → ℕ
number_after v [] = v
number_after v (b ∷ d) = number_after (v * 10 + (b - 48)) d

abbrev pub number_in : List ℕ → ℕ
number_in d = number_after 0 d

-- a file splits into `P5`, whitespace, width, whitespace, height, whitespace, maximum, whitespace, and the raster
pub record Headed (file : List ℕ) (w h m : ℕ) (raster : List ℕ) : Type 0 where
  pub a : ℕ
  pub b : ℕ
  pub c : ℕ
  pub d : ℕ
  pub whites : White a × White b × White c × White d
  pub width : List ℕ
  pub height : List ℕ
  pub maximum : List ℕ
  pub numerals : Numeral width × Numeral height × Numeral maximum
  pub values : (number_in width ≡ w) × (number_in height ≡ h) × (number_in maximum ≡ m)
  pub whole : file ≡ 80 ∷ 53 ∷ a ∷ (width ++ b ∷ (height ++ c ∷ (maximum ++ d ∷ raster)))
