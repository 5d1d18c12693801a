-- What the code's parts answer, by places in the file: the mark, a number and the place after it.
use Rattle.std.specs.Prelude.{Option, Some, None, ℕ, ◌≤◌, Bool, ◌&&◌, List, eqb, length, get_or, drop}
use Rattle.pgm.specs.declared.Found.{Found}
use Rattle.pgm.specs.Read.{Opening, none, is_white}

-- `P5` and a whitespace byte at the front; a place past the end reads as 0
abbrev pub is_marked : List ℕ → Bool
is_marked file = eqb (get_or file 0 0) 80 && (eqb (get_or file 1 0) 53 && is_white (get_or file 2 0))

-- what goes on where the code has found a number and the place after it
abbrev pub onward : List ℕ → Option Found → (ℕ → List ℕ → Opening) → Opening
onward file (Some found) go = go found.number (drop found.end file)
onward file None go = none

-- that place is one of the file, or its end
abbrev pub InFile : List ℕ → Option Found → Type 0
InFile file (Some found) = found.end ≤ length file
InFile file None = Unit {0}
