-- The float helpers by letter, from patterns to the pattern of the answer. All NaNs are one, written as the quiet one.
use Rattle.std.specs.Prelude.{◌≡◌, ℕ, ◌%◌, ◌^◌, ◌≤◌, Bool, cond, List, [], ◌∷◌, ltb, ℤ, pos, ◌-ℤ◌, get_or, Float, Result, MatchResult}
use Rattle.std.specs.Float.{binary32, binary64}
use Rattle.std.specs.Float.Ieee.{of_bits, to_bits}
use Rattle.ieee.specs.Convert.{convert}
use Rattle.ieee.specs.Floor.{floor}
use Rattle.ieee.specs.Order.{larger, smaller, magnitude, finite, total_less}
use Rattle.ieee.specs.Sqrt.{sqrt}
use Rattle.stored.specs.declared.UnknownLetter.{UnknownLetter}
use Rattle.stored.specs.declared.floats.Helper.{Helper}
use Rattle.stored.specs.declared.floats.Helper.TheVariants.{Sqrt32, Sqrt64, ToF32, Floor32, Abs64, IsFinite32, Max32, Max64, Min32, TotalLess32, TotalLess64}

abbrev pub single : ℕ → Float
single a = of_bits binary32 (a % 2 ^ 32)

abbrev pub double : ℕ → Float
double a = of_bits binary64 a

-- a whole number with a sign: bit 31 is the sign, the 31 bits below it are the size
abbrev pub signed : ℕ → ℤ
signed a = cond (ltb (a % 2 ^ 32) (2 ^ 31)) (pos (a % 2 ^ 32 % 2 ^ 31)) (pos 0 -ℤ pos (a % 2 ^ 32 % 2 ^ 31))

abbrev pub flag : Bool → ℕ
flag b = cond b 1 0

-- the answers in the order of their letters, with nothing before a
abbrev pub answers : ℕ → ℕ → List ℕ
answers a b =
    0
    ∷ to_bits binary32 (sqrt binary32 (single a))
    ∷ to_bits binary64 (sqrt binary64 (double a))
    ∷ to_bits binary32 (convert binary32 (double a))
    ∷ to_bits binary32 (floor binary32 (single a))
    ∷ to_bits binary64 (magnitude (double a))
    ∷ flag (finite (single a))
    ∷ to_bits binary32 (larger (single a) (single b))
    ∷ to_bits binary64 (larger (double a) (double b))
    ∷ to_bits binary32 (smaller (single a) (single b))
    ∷ flag (total_less (single a) (single b))
    ∷ flag (total_less (double a) (double b))
    ∷ []

-- a letter is 1 to 26 past a multiple of 32, small (97 to 122) or capital (65 to 90)
unfoldable pub float_answer : ℕ → ℕ → ℕ → ℕ
float_answer letter a b = get_or (answers a b) (letter % 32) 0

-- a helper's place among the answers
abbrev pub place : Helper → ℕ
place Sqrt32 = 1
place Sqrt64 = 2
place ToF32 = 3
place Floor32 = 4
place Abs64 = 5
place IsFinite32 = 6
place Max32 = 7
place Max64 = 8
place Min32 = 9
place TotalLess32 = 10
place TotalLess64 = 11

-- what a helper answers
unfoldable pub helper_answer : Helper → ℕ → ℕ → ℕ
helper_answer h a b = get_or (answers a b) (place h) 0

-- r is the helper with the letter, small or capital, or the letter where no helper has it
abbrev pub HasLetter : ℕ → Result Helper UnknownLetter → Type 0
HasLetter letter r = MatchResult r (λ h. place h ≡ letter % 32) (λ e. (e.0 ≡ letter) × (1 ≤ letter % 32 → 12 ≤ letter % 32))
