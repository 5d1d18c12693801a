-- Little-endian bytes: writing and reading, over their count.
use Rattle.std.specs.Prelude.{ℕ, zero, suc, ◌+◌, ◌*◌, ◌/◌, ◌%◌, ◌<◌, List, [], ◌∷◌}
use Rattle.laws.specs.Lists.{Each}

-- the n low bytes of x, the lowest first
unfoldable pub bytes_of : ℕ → ℕ → List ℕ
bytes_of zero x = []
bytes_of (suc n) x = x % 256 ∷ bytes_of n (x / 256)

-- the number that bytes stand for, the lowest first
unfoldable pub value_of : List ℕ → ℕ
value_of [] = 0
value_of (b ∷ l) = b + 256 * value_of l

-- each element is a byte
abbrev pub Bytes : List ℕ → Type 0
Bytes l = Each (λ b. b < 256) l
