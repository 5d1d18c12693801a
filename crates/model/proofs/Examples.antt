-- Worked cases. Floats are given by their f32 patterns. Assumes nothing.
use mathlib.Core.Path.{◌≡◌, refl}
use mathlib.Core.Bool.{false}
use mathlib.Core.List.{List, [], ◌∷◌, map}
use Prim.Native.Nat.{ℕ}
use lib.Ieee
use lib.Ieee.{Float, nan, inf, of_bits, of_int}
use Rattle.ieee.specs.Order.{finite}
use Rattle.refine.specs.Covariance.{covariance, zeros}
use Rattle.refine.specs.declared.PositionCovariance.{PositionCovariance}
use Rattle.ieee.specs.Numbers.{plus_zero}
use Rattle.ranges.specs.Arith.{one}
use Rattle.ranges.specs.Ranges.{within, up_to}
use Rattle.ranges.proofs.Examples.{float}
use Rattle.std.specs.Prelude.{None}
use Rattle.numbers.specs.Numbers.{number_in}
use Rattle.knots.specs.Places.{place, value_at}
use Rattle.model.specs.declared.SystematicModel.{SystematicModel}
use Rattle.model.specs.Knots.{table, after_knots, knots_number, at_of}
use Rattle.model.specs.Systematic.{systematic, about}
use Rattle.model.specs.Model.{model_of, model_number}

-- ---- refusals of knots

module _ (f : Float) (l g r : List Float) where
  pub no_knot : knots_number (table 0 f l g r) ≡ 14
  unfolding after_knots
  no_knot = refl

  pub seventeen : knots_number (table 17 f l g r) ≡ 14
  unfolding after_knots
  seventeen = refl

  -- a NaN width among two is 14, also where a number is out of its range, and a single one is 12
  pub nan_of_two : knots_number (table 2 f (nan ∷ one ∷ l) g r) ≡ 14
  unfolding after_knots Ieee.lt of_int
  nan_of_two = refl

  pub nan_alone : knots_number (table 1 f (nan ∷ l) g r) ≡ 12
  unfolding after_knots within
  nan_alone = refl

  -- an infinite width rises, and is out of its range
  pub infinite_second : knots_number (table 2 f (one ∷ inf false ∷ l) g r) ≡ 12
  unfolding after_knots Ieee.lt within of_int
  infinite_second = refl

-- ---- 13 within the ranges: one knot (1, 1e-20, 0), floor 0, no noise, offset (1, 0), no width, grid 1. The gain's square is a subnormal number, and its quotient an infinity.
pub not_finite : (l g r : List Float)
    → model_number (table 1 plus_zero (one ∷ l) (float 0x1e3c_e508 ∷ g) (plus_zero ∷ r)) (covariance plus_zero plus_zero plus_zero) (one ∷ plus_zero ∷ []) None one ≡ 13
unfolding model_of at_of after_knots place value_at systematic about within up_to finite of_bits Ieee.lt Ieee.le Ieee.eq Ieee.add Ieee.sub Ieee.mul Ieee.div of_int
not_finite l g r = refl

-- with a noise part out of its range it is 12, and without a knot 14
pub not_finite_12 : (l g r : List Float)
    → model_number (table 1 plus_zero (one ∷ l) (float 0x1e3c_e508 ∷ g) (plus_zero ∷ r)) (covariance nan plus_zero plus_zero) (one ∷ plus_zero ∷ []) None one ≡ 12
unfolding model_of at_of after_knots place value_at systematic about within up_to finite of_bits Ieee.lt Ieee.le Ieee.eq Ieee.add Ieee.sub Ieee.mul Ieee.div of_int
not_finite_12 l g r = refl

pub not_finite_14 : (l g r : List Float)
    → model_number (table 0 nan (one ∷ l) (float 0x1e3c_e508 ∷ g) (plus_zero ∷ r)) (covariance nan plus_zero plus_zero) (one ∷ plus_zero ∷ []) None one ≡ 14
unfolding model_of
not_finite_14 l g r = refl

-- ---- the ranges: at an end the number is 0, and past it 12

-- 1,000 and -1,000, and the next floats
abbrev thousands : List ℕ
thousands = 0x447a_0000 ∷ 0xc47a_0000 ∷ 0x447a_0001 ∷ 0xc47a_0001 ∷ []

-- 1,000,000 and -1,000,000, and the next floats
abbrev millions : List ℕ
millions = 0x4974_2400 ∷ 0xc974_2400 ∷ 0x4974_2401 ∷ 0xc974_2401 ∷ []

-- 1,000 and the next float, minus zero, and the negative number nearest to it
abbrev from_zero : List ℕ
from_zero = 0x447a_0000 ∷ 0x447a_0001 ∷ 0x8000_0000 ∷ 0x8000_0001 ∷ []

module _ (l g r : List Float) where
  -- one knot and a floor
  abbrev knot : ℕ → ℕ → ℕ → ℕ → SystematicModel
  knot width gain residual floor = table 1 (float floor) (float width ∷ l) (float gain ∷ g) (float residual ∷ r)

  -- what `at` says of a knot, at no width
  abbrev at_knot : ℕ → ℕ → ℕ → ℕ → ℕ
  at_knot width gain residual floor = number_in (at_of (knot width gain residual floor) None)

  pub width_ends : map (λ (n : ℕ). at_knot n 0 0 0) thousands ≡ 0 ∷ 0 ∷ 12 ∷ 12 ∷ []
  unfolding at_of after_knots place value_at within up_to of_bits
  width_ends = refl

  pub gain_ends : map (λ (n : ℕ). at_knot 0 n 0 0) thousands ≡ 0 ∷ 0 ∷ 12 ∷ 12 ∷ []
  unfolding at_of after_knots place value_at within up_to of_bits
  gain_ends = refl

  pub residual_ends : map (λ (n : ℕ). at_knot 0 0 n 0) thousands ≡ 0 ∷ 0 ∷ 12 ∷ 12 ∷ []
  unfolding at_of after_knots place value_at within up_to of_bits
  residual_ends = refl

  pub floor_ends : map (λ (n : ℕ). at_knot 0 0 0 n) from_zero ≡ 0 ∷ 12 ∷ 0 ∷ 12 ∷ []
  unfolding at_of after_knots place value_at within up_to of_bits
  floor_ends = refl

  -- what `model` says of a knot, with no noise at offset 0 and grid 0
  abbrev model_knot : ℕ → ℕ → ℕ → ℕ → ℕ
  model_knot width gain residual floor =
      model_number (knot width gain residual floor) zeros (plus_zero ∷ plus_zero ∷ []) None plus_zero

  pub knot_ends : model_knot 0x447a_0000 0x447a_0000 0x447a_0000 0x447a_0000 ∷ model_knot 0x447a_0001 0 0 0
      ∷ model_knot 0 0x447a_0001 0 0 ∷ model_knot 0 0 0x447a_0001 0 ∷ model_knot 0 0 0 0x447a_0001 ∷ [] ≡ 0 ∷ 12 ∷ 12 ∷ 12 ∷ 12 ∷ []
  unfolding model_of place value_at systematic about within up_to finite of_bits Ieee.le Ieee.lt Ieee.eq Ieee.add Ieee.sub Ieee.mul Ieee.div of_int
  knot_ends = refl

  -- what it says of an estimate, by a knot of zeros
  abbrev estimate : PositionCovariance → ℕ → ℕ → ℕ → ℕ
  estimate c x y grid = model_number (knot 0 0 0 0) c (float x ∷ float y ∷ []) None (float grid)

  pub noise_xx_ends : map (λ (n : ℕ). estimate (covariance (float n) plus_zero plus_zero) 0 0 0) millions ≡ 0 ∷ 0 ∷ 12 ∷ 12 ∷ []
  unfolding model_of place value_at systematic about within up_to finite of_bits Ieee.le Ieee.lt Ieee.eq Ieee.add Ieee.sub Ieee.mul Ieee.div of_int
  noise_xx_ends = refl

  pub noise_xy_ends : map (λ (n : ℕ). estimate (covariance plus_zero (float n) plus_zero) 0 0 0) millions ≡ 0 ∷ 0 ∷ 12 ∷ 12 ∷ []
  unfolding model_of place value_at systematic about within up_to finite of_bits Ieee.le Ieee.lt Ieee.eq Ieee.add Ieee.sub Ieee.mul Ieee.div of_int
  noise_xy_ends = refl

  pub noise_yy_ends : map (λ (n : ℕ). estimate (covariance plus_zero plus_zero (float n)) 0 0 0) millions ≡ 0 ∷ 0 ∷ 12 ∷ 12 ∷ []
  unfolding model_of place value_at systematic about within up_to finite of_bits Ieee.le Ieee.lt Ieee.eq Ieee.add Ieee.sub Ieee.mul Ieee.div of_int
  noise_yy_ends = refl

  pub offset_x_ends : map (λ (n : ℕ). estimate zeros n 0 0) thousands ≡ 0 ∷ 0 ∷ 12 ∷ 12 ∷ []
  unfolding model_of place value_at systematic about within up_to finite of_bits Ieee.le Ieee.lt Ieee.eq Ieee.add Ieee.sub Ieee.mul Ieee.div of_int
  offset_x_ends = refl

  pub offset_y_ends : map (λ (n : ℕ). estimate zeros 0 n 0) thousands ≡ 0 ∷ 0 ∷ 12 ∷ 12 ∷ []
  unfolding model_of place value_at systematic about within up_to finite of_bits Ieee.le Ieee.lt Ieee.eq Ieee.add Ieee.sub Ieee.mul Ieee.div of_int
  offset_y_ends = refl

  pub grid_ends : map (λ (n : ℕ). estimate zeros 0 0 n) from_zero ≡ 0 ∷ 12 ∷ 0 ∷ 12 ∷ []
  unfolding model_of place value_at systematic about within up_to finite of_bits Ieee.le Ieee.lt Ieee.eq Ieee.add Ieee.sub Ieee.mul Ieee.div of_int
  grid_ends = refl
