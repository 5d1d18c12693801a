-- What the code's loops need alone: sums on the way, and the test for a NaN. The figures are those of `gram`.
use Rattle.std.specs.Prelude.{ℕ, zero, suc, ◌≡◌, ◌<◌, List, Bool, false, ◌||◌, get_or, length, Float, is_nan}
use Rattle.std.specs.Float.{nan}
use Rattle.ieee.specs.Numbers.{plus_zero}
use Rattle.gram.specs.declared.Three.{Three}
use Rattle.gram.specs.Gram.{along}

-- r is s, and n products of each component added to its sum
pub record Added (gx gy : List Float) (step k : ℕ) (s : Three) (n : ℕ) (r : Three) : Type 0 where
  pub of_xx : r.xx ≡ along gx gx step k s.xx n
  pub of_xy : r.xy ≡ along gx gy step k s.xy n
  pub of_yy : r.yy ≡ along gy gy step k s.yy n

abbrev pub none : Three
none = record { xx = plus_zero; xy = plus_zero; yy = plus_zero }

-- the four partial sums of each component
pub record FourSums (gx gy : List Float) (m : ℕ) (p : List Three) : Type 0 where
  pub four : length p ≡ 4
  pub each : (l : ℕ) → l < 4 → Added gx gy 4 l none m (get_or p l none)

-- a NaN is among the first n gradients
abbrev pub any_nan : List Float → List Float → ℕ → Bool
any_nan gx gy zero = false
any_nan gx gy (suc n) = any_nan gx gy n || (is_nan (get_or gx n nan) || is_nan (get_or gy n nan))
