-- What the code asks of samples and of values: floats that are whole numbers.
use Rattle.std.specs.Prelude.{◌≡◌, List, ℕ, ◌≤◌, ◌<◌, length, get_or, Float}
use Rattle.std.specs.Float.{nan}
use Rattle.ieee.specs.Numbers.{f32_of}

-- x is one of 0 to most
pub record Upto (most : ℕ) (x : Float) : Type 0 where
  pub number : ℕ
  pub is : x ≡ f32_of number
  pub small : number ≤ most

-- 81 of them
pub record AllUpto (most : ℕ) (l : List Float) : Type 0 where
  pub each : (k : ℕ) → k < 81 → Upto most (get_or l k nan)
  pub long : length l ≡ 81
