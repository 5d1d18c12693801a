-- Numbers as text: decimal without leading zeros, and eight hexadecimal digits in capitals. A text is the list of its bytes.
use Rattle.std.specs.Prelude.{ℕ, zero, suc, ◌+◌, ◌/◌, ◌%◌, cond, List, [], ◌∷◌, ◌++◌, ltb}
use Rattle.io.specs.Digits.{last_digits}

-- how many decimal digits n has, up to f + 1
unfoldable pub places : ℕ → ℕ → ℕ
places zero n = 1
places (suc f) n = cond (ltb n 10) 1 (suc (places f (n / 10)))

-- n below 2 ^ 64 in decimal
unfoldable pub decimal_of : ℕ → List ℕ
decimal_of n = last_digits 10 (places 19 n) n

-- a digit below 16, in capitals
unfoldable pub digit_of : ℕ → ℕ
digit_of d = cond (ltb d 10) (48 + d) (55 + d)

abbrev pub hex4_of : ℕ → List ℕ
hex4_of x = digit_of (x / 4096 % 16) ∷ digit_of (x / 256 % 16) ∷ digit_of (x / 16 % 16) ∷ digit_of (x % 16) ∷ []

-- x below 2 ^ 32 as eight digits
abbrev pub hex8_of : ℕ → List ℕ
hex8_of x = hex4_of (x / 65536) ++ hex4_of (x % 65536)
