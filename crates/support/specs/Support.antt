-- Which supports are taken, and which pixels lie in one.
use Rattle.std.specs.Prelude.{ℕ, Bool, cond, ◌&&◌, List, ltb, ℤ, pos, ◌-ℤ◌, Result, Ok, Err}
use Rattle.std.specs.Int.Signed.{le_z, lt_z}
use Rattle.numbers.specs.declared.Number.{Number}
use Rattle.numbers.specs.declared.Number.TheVariants.{Far, Support}
use Rattle.numbers.specs.Numbers.{number_in}
use Rattle.limits.specs.Limits.{far_place}

-- 8: an origin part is beyond ±1,000,000; then 10: the side is above 32; then what follows
unfoldable pub after_state : {A : Type 0} → List ℤ → ℕ → Result A Number → Result A Number
after_state origin side next = cond (far_place origin) (Err Far) (cond (ltb 32 side) (Err Support) next)

-- what refuses a support, if anything does
abbrev pub state_judged : List ℤ → ℕ → Result Unit Number
state_judged origin side = after_state origin side (Ok tt)

-- 8, then 10, or 0
abbrev pub state_number : List ℤ → ℕ → ℕ
state_number origin side = number_in (state_judged origin side)

-- 0 ≤ x - o < side
abbrev pub in_side : ℤ → ℤ → ℕ → Bool
in_side x o side = le_z (pos 0) (x -ℤ o) && lt_z (x -ℤ o) (pos side)
