-- Worked examples: the order of the causes, which pass decides, after which numbers memory is cleared and how far.
use Rattle.std.specs.Prelude.{◌≡◌, refl, ℕ, true, false, List, [], ◌∷◌, pos, Float, Result, Ok, Err}
use Rattle.numbers.specs.declared.Number.{Number}
use Rattle.numbers.specs.declared.Number.TheVariants.{Few, NoBand}
use Rattle.std.specs.Float.Ieee.{of_int}
use Rattle.ieee.specs.Numbers.{plus_zero, f32_of}
use Rattle.milli.specs.Thousandths.{milli_of}
use Rattle.pass.specs.declared.Pass.{Pass}
use Rattle.noise.specs.Refusals.{refusal_of}
use Rattle.noise.specs.Answers.{decided}
use Rattle.noise.specs.Cleared.{cleared}
use Rattle.noise.specs.Call.{ran, cleared_ints, cleared_floats}

-- no pixel, a side too large, one too small, short memory; then one cause less each
pub orders : (refusal_of 0 16385 3 true ≡ 1) × (refusal_of 0 16384 3 true ≡ 2) × (refusal_of 12 4 3 true ≡ 3)
    × (refusal_of 16 4 4 true ≡ 4) × (refusal_of 16 4 4 false ≡ 0)
unfolding refusal_of
orders = (refl, refl, refl, refl, refl)

-- ---- which pass decides

abbrev first : Result Float Number → Pass
first sigma = record { sigma = sigma; rounds = 3; b0 = 10; b1 = 11; b2 = 12; b3 = 13; rail = 14 }

abbrev second : Pass
second = record { sigma = Err NoBand; rounds = 40; b0 = 20; b1 = 21; b2 = 22; b3 = 23; rail = 24 }

-- a figure decides at any step
pub by_figure : decided 2 (first (Ok (f32_of 2))) second
    ≡ record { number = 0; sigma = f32_of 2; milli = 2000; b0 = 10; b1 = 11; b2 = 12; b3 = 13; rail = 14; rounds = 3; passes = 1 }
unfolding decided milli_of of_int
by_figure = refl

-- without one the first pass decides at step 1 alone
pub at_step_1 : decided 1 (first (Err Few)) second
    ≡ record { number = 5; sigma = plus_zero; milli = 0; b0 = 10; b1 = 11; b2 = 12; b3 = 13; rail = 14; rounds = 3; passes = 1 }
unfolding decided
at_step_1 = refl

-- the second's counts and the rounds of both
pub at_step_2 : decided 2 (first (Err Few)) second
    ≡ record { number = 6; sigma = plus_zero; milli = 0; b0 = 20; b1 = 21; b2 = 22; b3 = 23; rail = 24; rounds = 43; passes = 2 }
unfolding decided
at_step_2 = refl

-- ---- memory

pub numbers_that_clear : (ran 0 ≡ true) × (ran 5 ≡ true) × (ran 6 ≡ true) × (ran 7 ≡ true)
numbers_that_clear = (refl, refl, refl, refl)

pub numbers_that_leave : (ran 1 ≡ false) × (ran 2 ≡ false) × (ran 3 ≡ false) × (ran 4 ≡ false)
numbers_that_leave = (refl, refl, refl, refl)

-- as many zeros as asked, and what stood beyond them
pub two_of_three : ◌≡◌ {A = List ℕ} (cleared 0 2 (7 ∷ 8 ∷ 9 ∷ [])) (0 ∷ 0 ∷ 9 ∷ [])
two_of_three = refl

-- three numbers of one kind and four of the other for one window, and what lies beyond
pub one_window : (cleared_ints 1 (pos 1 ∷ pos 2 ∷ pos 3 ∷ pos 4 ∷ []) ≡ pos 0 ∷ pos 0 ∷ pos 0 ∷ pos 4 ∷ [])
    × (cleared_floats 1 (f32_of 1 ∷ f32_of 2 ∷ f32_of 3 ∷ f32_of 4 ∷ f32_of 5 ∷ [])
    ≡ plus_zero ∷ plus_zero ∷ plus_zero ∷ plus_zero ∷ f32_of 5 ∷ [])
one_window = (refl, refl)
