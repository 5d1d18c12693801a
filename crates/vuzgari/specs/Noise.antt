-- The noise call as C makes it: the answer to its arguments, and what it leaves in the answer slice.
use Rattle.std.specs.Prelude.{Bool, cond, ◌||◌, List, ◌++◌, ℕ, ltb, length, drop, ℤ, Float, Result, Ok, Err}
use Rattle.numbers.specs.declared.Number.{Number}
use Rattle.numbers.specs.Numbers.{number_of}
use Rattle.answer.specs.declared.Answer.{Answer}
use Rattle.answer.specs.Fields.{answer_bytes}
use Rattle.noise.specs.Refusals.{short_of}
use Rattle.noise.specs.Call.{noise_of, ran}

-- number 4, by the lengths of the work slices and of the answer slice: also where this is under 40 bytes
abbrev pub short_for : ℕ → ℕ → ℕ → ℕ → ℕ → Bool
short_for w h ints floats out = short_of w h ints floats || ltb out 40

abbrev pub noise_for : List ℕ → ℕ → ℕ → List ℤ → List Float → List ℕ → Answer
noise_for pixels w h ints floats out = noise_of pixels w h (short_for w h (length ints) (length floats) (length out))

-- after 0, 5, 6 or 7 the answer's 40 bytes and what stood beyond them; after any other number all as it was
abbrev pub left_bytes : List ℕ → Answer → List ℕ
left_bytes out a = cond (ran a.number) (answer_bytes a ++ drop 40 out) out

-- the number of a call that has run, or of its refusal
abbrev pub told : Result ℕ Number → ℕ
told (Ok number) = number
told (Err why) = number_of why
