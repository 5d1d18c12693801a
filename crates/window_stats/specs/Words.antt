-- Only for the code that measures several windows side by side: a row of four pixels as one number.
use Rattle.std.specs.Prelude.{List, [], ◌∷◌, ℕ, ◌+◌, ◌*◌, ◌/◌, ◌%◌, get_or, ℤ, pos}

-- four pixels from a place of the image as one number, the first lowest
abbrev pub word_at : List ℕ → ℕ → ℕ
word_at img at = get_or img at 0 + get_or img (at + 1) 0 * 256 + get_or img (at + 2) 0 * 65536 + get_or img (at + 3) 0 * 16777216

-- the four pixels of such a number, and four rows of them
abbrev pub row_in : ℕ → List ℤ
row_in n = pos (n % 256) ∷ pos (n / 256 % 256) ∷ pos (n / 65536 % 256) ∷ pos (n / 16777216) ∷ []

abbrev pub rows_in : ℕ → ℕ → ℕ → ℕ → List (List ℤ)
rows_in a b c d = row_in a ∷ row_in b ∷ row_in c ∷ row_in d ∷ []
