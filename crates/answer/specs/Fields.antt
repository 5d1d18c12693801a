-- The ten fields of a noise answer as whole numbers, and their bytes.
use Rattle.std.specs.Prelude.{ℕ, List, [], ◌∷◌, get_or}
use Rattle.std.specs.Float.{binary32}
use Rattle.std.specs.Float.Ieee.{to_bits}
use Rattle.laws.specs.Lists.{joined}
use Rattle.little_endian.specs.Bytes.{bytes_of}
use Rattle.answer.specs.declared.Answer.{Answer}

-- in document 01's order, sigma by its bits
abbrev pub words_of : Answer → List ℕ
words_of a =
    a.number ∷ to_bits binary32 a.sigma ∷ a.milli ∷ a.b0 ∷ a.b1 ∷ a.b2 ∷ a.b3 ∷ a.rail ∷ a.rounds ∷ a.passes ∷ []

-- four bytes each, low first, one after the other
unfoldable pub bytes_of_words : List ℕ → List ℕ
bytes_of_words words = joined (λ k. bytes_of 4 (get_or words k 0)) 0 10

-- the 40 bytes that C reads
abbrev pub answer_bytes : Answer → List ℕ
answer_bytes a = bytes_of_words (words_of a)
