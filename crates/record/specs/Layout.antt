-- Numbers one after the other as little-endian bytes, each in as many bytes as a list of sizes says.
use Rattle.std.specs.Prelude.{List, [], ◌∷◌, ◌++◌, ℕ, ◌+◌, ◌^◌, ◌<◌, take, drop}
use Rattle.little_endian.specs.Bytes.{bytes_of, value_of}

-- the bytes of numbers, each of its size; a number beyond the sizes has none
unfoldable pub bytes_in : List ℕ → List ℕ → List ℕ
bytes_in [] xs = []
bytes_in (n ∷ ns) [] = []
bytes_in (n ∷ ns) (x ∷ xs) = bytes_of n x ++ bytes_in ns xs

-- the numbers of these sizes that bytes hold, from the front on
unfoldable pub numbers_in : List ℕ → List ℕ → List ℕ
numbers_in [] l = []
numbers_in (n ∷ ns) l = value_of (take n l) ∷ numbers_in ns (drop n l)

-- how many bytes the sizes are in all
abbrev pub byte_sum : List ℕ → ℕ
byte_sum [] = 0
byte_sum (n ∷ ns) = n + byte_sum ns

-- there is one number for each size, and it fits into that many bytes
unfoldable pub Fit : List ℕ → List ℕ → Type 0
Fit [] [] = Unit {0}
Fit [] (x ∷ xs) = ⊥
Fit (n ∷ ns) [] = ⊥
Fit (n ∷ ns) (x ∷ xs) = (x < 256 ^ n) × Fit ns xs
