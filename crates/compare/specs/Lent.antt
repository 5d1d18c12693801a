-- Values that are lent by their parts, and answers in what is lent.
use Rattle.std.specs.Prelude.{ℕ, ◌≡◌, List, [], ◌∷◌, ℤ, get_or, replicate, Float, Result, MatchResult}
use Rattle.std.specs.Float.{nan}
use Rattle.ieee.specs.Numbers.{plus_zero}
use Rattle.numbers.specs.declared.Number.{Number}
use Rattle.numbers.specs.Numbers.{number_in}
use Rattle.refine.specs.Covariance.{covariance, figures}
use Rattle.refine.specs.declared.PositionCovariance.{PositionCovariance}
use Rattle.gradients.specs.declared.PixelGradients.{PixelGradients}
use Rattle.gradients.specs.declared.Unchanged.{Unchanged}
use Rattle.gradients.specs.Gradients.{handed_number, handed_state}

abbrev pub state : List ℤ → ℕ → List Float → List Float → PixelGradients
state origin side gx gy = record { origin = origin; side = side; gx = gx; gy = gy }

-- the number, and the parts of the state handed back
pub record HandedBack (h : Result PixelGradients Unchanged) (number : ℕ) (origin : List ℤ) (side : ℕ) (gx gy : List Float) : Type 0 where
  pub told : number ≡ handed_number h
  pub of_origin : origin ≡ (handed_state h).origin
  pub of_side : side ≡ (handed_state h).side
  pub of_gx : gx ≡ (handed_state h).gx
  pub of_gy : gy ≡ (handed_state h).gy

abbrev pub covariance_from : List Float → PositionCovariance
covariance_from l = covariance (get_or l 0 nan) (get_or l 1 nan) (get_or l 2 nan)

abbrev pub entries : PositionCovariance → List Float
entries c = c.xx ∷ c.xy ∷ c.yy ∷ []

-- the number, and the n floats, zeros where there are none
pub record ToldFloats (n : ℕ) (j : Result (List Float) Number) (number : ℕ) (out : List Float) : Type 0 where
  pub told : number ≡ number_in j
  pub laid : MatchResult j (λ l. out ≡ l) (λ _. out ≡ replicate n plus_zero)

-- the number, and the figures by their three floats
pub record Told (j : Result PositionCovariance Number) (n : ℕ) (out : List Float) : Type 0 where
  pub told : n ≡ number_in j
  pub laid : out ≡ entries (figures j)
