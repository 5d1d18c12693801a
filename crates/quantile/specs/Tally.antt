-- How many pass a test.
use Rattle.std.specs.Prelude.{Bool, cond, ℕ, zero, suc, ◌+◌}

-- how many of 0, 1, .. , n - 1 pass
abbrev pub tally : (ℕ → Bool) → ℕ → ℕ
tally passes zero = 0
tally passes (suc n) = tally passes n + cond (passes n) 1 0
