-- The answer of one pass or two. Past the lists of figures nothing sees a pixel.
use Rattle.std.specs.Prelude.{Bool, cond, ◌||◌, List, ℕ, ◌+◌, eqb, Result, Ok, Err, is_ok, Float}
use Rattle.numbers.specs.declared.Number.{Number}
use Rattle.numbers.specs.Numbers.{number_in}
use Rattle.joining.specs.Joining.{figure_of}
use Rattle.window.specs.declared.WindowStats.{WindowStats}
use Rattle.milli.specs.Thousandths.{milli_of}
use Rattle.answer.specs.declared.Answer.{Answer}
use Rattle.pass.specs.declared.Pass.{Pass}
use Rattle.pass.specs.Pass.{pass_of}

-- thousandths, 0 where there is no sigma
abbrev pub milli_in : Result Float Number → ℕ
milli_in (Ok sigma) = milli_of sigma
milli_in (Err why) = 0

-- the answer that ends in pass p, with the rounds of all passes; sigma is zero unless the number is 0
abbrev pub ending_in : Pass → ℕ → ℕ → Answer
ending_in p rounds passes =
    record {
      number = number_in p.sigma;
      sigma = figure_of p.sigma;
      milli = milli_in p.sigma;
      b0 = p.b0;
      b1 = p.b1;
      b2 = p.b2;
      b3 = p.b3;
      rail = p.rail;
      rounds = rounds;
      passes = passes;
    }

-- the first pass decides where it has a sigma or its step s is 1
abbrev pub first_decides : ℕ → Pass → Bool
first_decides s p = is_ok p.sigma || eqb s 1

-- else the second does
unfoldable pub decided : ℕ → Pass → Pass → Answer
decided s p q = cond (first_decides s p) (ending_in p p.rounds 1) (ending_in q (p.rounds + q.rounds) 2)

-- from the figures of the first grid's windows and of the second's
abbrev pub answer_of : ℕ → List WindowStats → List WindowStats → Answer
answer_of s first second = decided s (pass_of first) (pass_of second)
