-- How many numbers of a progression lie below an end: those whose index is below the count, and no others. Assumes nothing.
use Prim.Native.Nat.{ℕ, ◌+◌, ◌-◌, ◌≤◌, ◌<◌}
use native.Mathlib.Nat.{le-div_iff_mul-le, mul-le-mul_left}
use native.Mathlib.Omega.{arith}
use Rattle.grid.specs.Grid.{IsCountBelow, count_below}

pub count_is : (first s end : ℕ) → 1 ≤ s → IsCountBelow first s end (count_below first s end)
count_is first s end h k = (
  λ l. omega (arith, (le-div_iff_mul-le {k = s} {x = k + 1} {y = end - first + (s - 1)} h).0 (omega arith)),
  λ l. omega (arith, (le-div_iff_mul-le {k = s} {x = k + 1} {y = end - first + (s - 1)} h).1 (omega arith)),
)

pub count_most : (first s end : ℕ) → 1 ≤ s → count_below first s end ≤ end
count_most first s end h =
    let past : end < count_below first s end → ⊥ = λ l. omega (arith, (count_is first s end h end).0 l, mul-le-mul_left end h) in
    omega arith
