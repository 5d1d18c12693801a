-- The noise call: its answer from its arguments, and what it leaves in the work slices. The calls from C and from `lidnoise` are
-- this one.
use Rattle.std.specs.Prelude.{Bool, cond, ◌||◌, List, ℕ, ◌*◌, eqb, length, ℤ, pos, Float}
use Rattle.ieee.specs.Numbers.{plus_zero}
use Rattle.grid.specs.Step.{step_of}
use Rattle.grid.specs.Needed.{first_w, second_w, needed_of}
use Rattle.measure.specs.Figures.{figures_of}
use Rattle.pass.specs.Pass.{pass_of}
use Rattle.pass.specs.Memory.{ints_for, floats_for}
use Rattle.noise.specs.Cleared.{cleared}
use Rattle.answer.specs.declared.Answer.{Answer}
use Rattle.noise.specs.Refusals.{refusal_of}
use Rattle.noise.specs.Answers.{first_decides, answer_of}

-- a refusal: zeros beside the number
abbrev pub refused : ℕ → Answer
refused number =
    record { number = number; sigma = plus_zero; milli = 0; b0 = 0; b1 = 0; b2 = 0; b3 = 0; rail = 0; rounds = 0; passes = 0 }

-- what the passes answer, from the pixels of an image of w by h
unfoldable pub measured : List ℕ → ℕ → ℕ → Answer
measured img w h = answer_of (step_of (w * h) first_w) (figures_of img w h first_w) (figures_of img w h second_w)

-- the first of them is the only one
abbrev pub one_runs : List ℕ → ℕ → ℕ → Bool
one_runs img w h = first_decides (step_of (w * h) first_w) (pass_of (figures_of img w h first_w))

-- by the number of a refusal, 0 for none
abbrev pub answer_by : ℕ → Answer → Answer
answer_by number answer = cond (eqb number 0) answer (refused number)

-- the answer to a call whose memory is too short or is not
unfoldable pub noise_of : List ℕ → ℕ → ℕ → Bool → Answer
noise_of img w h short = answer_by (refusal_of (length img) w h short) (measured img w h)

-- ---- what it leaves

-- the passes have run: 0, 5, 6 or 7
abbrev pub ran : ℕ → Bool
ran number = eqb number 0 || eqb number 5 || eqb number 6 || eqb number 7

-- zeros as far as memory is needed
abbrev pub cleared_ints : ℕ → List ℤ → List ℤ
cleared_ints m ints = cleared (pos 0) (ints_for m) ints

abbrev pub cleared_floats : ℕ → List Float → List Float
cleared_floats m floats = cleared plus_zero (floats_for m) floats

-- after 0, 5, 6 or 7 the needed memory is zeros; after any other number all is as it was
abbrev pub left_ints : ℕ → ℕ → ℕ → List ℤ → List ℤ
left_ints number w h ints = cond (ran number) (cleared_ints (needed_of w h) ints) ints

abbrev pub left_floats : ℕ → ℕ → ℕ → List Float → List Float
left_floats number w h floats = cond (ran number) (cleared_floats (needed_of w h) floats) floats
