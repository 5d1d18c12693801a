-- The work memory that a noise call needs, in windows, and the sizing call's answer.
use Rattle.std.specs.Prelude.{cond, ℕ, ◌*◌, max, eqb, Result, Ok, Err}
use Rattle.numbers.specs.declared.Number.{Number}
use Rattle.numbers.specs.declared.Number.TheVariants.{SideAbove, SideBelow}
use Rattle.limits.specs.Limits.{too_large, too_small}
use Rattle.grid.specs.Step.{step_of}
use Rattle.grid.specs.Grid.{total_of}

-- W of the first pass and of the second
abbrev pub first_w : ℕ
first_w = 8192

abbrev pub second_w : ℕ
second_w = 32768

-- M: the larger T of both passes, the first's where its step is 1
unfoldable pub needed_of : ℕ → ℕ → ℕ
needed_of w h = cond (eqb (step_of (w * h) first_w) 1) (total_of w h first_w) (max (total_of w h first_w) (total_of w h second_w))

-- the sizing call's answer: 1, then 3, then M
unfoldable pub sizing_of : ℕ → ℕ → Result ℕ Number
sizing_of w h = cond (too_large w h) (Err SideAbove) (cond (too_small w h) (Err SideBelow) (Ok (needed_of w h)))

-- M of such an answer, 0 where there is none
abbrev pub size_windows : Result ℕ Number → ℕ
size_windows (Ok m) = m
size_windows (Err why) = 0
