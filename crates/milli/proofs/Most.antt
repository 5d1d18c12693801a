-- The thousandths of what is at most a whole number n: 1,000 n at most.
use mathlib.Core.Logic.{◌⊎◌, inl, inr}
use mathlib.Core.Bool.{false}
use Prim.Native.Nat.{ℕ, ◌+◌, ◌-◌, ◌*◌, ◌^◌, ◌≤◌, ◌<◌, min}
use native.Mathlib.Omega.{arith}
use lib.Ieee.{Float, nan, inf, fin, up, down}
use lib.Ieee.Fits.{down_pos}
use Rattle.laws.proofs.Choice.{cond_both}
use Rattle.ieee.proofs.Naturals.{le_or_lt}
use Rattle.ieee.proofs.Bounded.{Bounded}
use Rattle.milli.specs.Thousandths.{thousandths, milli_of}
use Rattle.milli.proofs.Nearest.{half_above, next_multiple}

thousandths_at_most : (a c n : ℕ) → 0 < c → a ≤ n * c → thousandths a c ≤ 1000 * n
thousandths_at_most a c n C h = go (le_or_lt (thousandths a c) (1000 * n))
  where
    over : (s : ℕ) → s * 2 ≤ a * 1000 * 2 + c → 1000 * n * c + c ≤ s → ⊥
    over s p q = omega arith

    go : (thousandths a c ≤ 1000 * n) ⊎ (1000 * n < thousandths a c) → thousandths a c ≤ 1000 * n
    go (inl l) = l
    go (inr l) = absurd (over (thousandths a c * c) (half_above a c C) (next_multiple (1000 * n) (thousandths a c) c l))

pub milli_most : (x : Float) (n : ℕ) → Bounded x false n → milli_of x ≤ 1000 * n
unfolding milli_of
milli_most nan n p = absurd p
milli_most (inf t) n p = absurd p
milli_most (fin t m e) n p =
    cond_both (λ (k : ℕ). k ≤ 1000 * n) t 0 (min (thousandths (m * up e) (down e)) (2 ^ 32 - 1)) (omega arith)
    (low (thousandths (m * up e) (down e)) (thousandths_at_most (m * up e) (down e) n (down_pos e) p.1))
  where
    low : (k : ℕ) → k ≤ 1000 * n → min k (2 ^ 32 - 1) ≤ 1000 * n
    low k h = omega arith
