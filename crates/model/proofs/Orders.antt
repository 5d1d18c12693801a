-- Worked cases of the systematic part at which another order of operations gives another figure: gain, residual, floor, both offsets
-- and grid, by their f32 patterns. Assumes nothing.
use mathlib.Core.Path.{◌≡◌, refl}
use mathlib.Core.List.{[], ◌∷◌}
use Prim.Native.Nat.{ℕ}
use lib.Ieee
use lib.Ieee.{of_bits, of_int}
use Rattle.refine.specs.Covariance.{covariance}
use Rattle.refine.specs.declared.PositionCovariance.{PositionCovariance}
use Rattle.ranges.proofs.Examples.{float}
use Rattle.model.specs.Systematic.{systematic}

abbrev part : ℕ → ℕ → ℕ → ℕ → ℕ → ℕ → PositionCovariance
part g rho floor u0 u1 grid = systematic (float g) (float rho) (float floor) (float u0 ∷ float u1 ∷ []) (float grid)

abbrev entries : ℕ → ℕ → ℕ → PositionCovariance
entries xx xy yy = covariance (float xx) (float xy) (float yy)

-- the prior is a quotient by 12
pub prior_divided : part 0 0 0 0 0 0x40a0_0000 ≡ entries 0x4005_5555 0 0x4005_5555
unfolding systematic of_bits of_int Ieee.le Ieee.lt Ieee.eq Ieee.add Ieee.sub Ieee.mul Ieee.div
prior_divided = refl

-- of the grid's square
pub prior_square_first : part 0 0 0 0 0 0x40e0_0000 ≡ entries 0x4082_aaab 0 0x4082_aaab
unfolding systematic of_bits of_int Ieee.le Ieee.lt Ieee.eq Ieee.add Ieee.sub Ieee.mul Ieee.div
prior_square_first = refl

-- in f32
pub prior_f32 : part 0 0x3f80_0000 0 0x3f80_0000 0 0x3dcc_cccd ≡ entries 0x3f80_1b4f 0 0x3a5a_740f
unfolding systematic of_bits of_int Ieee.le Ieee.lt Ieee.eq Ieee.add Ieee.sub Ieee.mul Ieee.div
prior_f32 = refl

-- g * g comes first
pub gain_square_first : part 0x40a0_0000 0x3f80_0000 0 0 0 0x40a0_0000 ≡ entries 0x3d20_c0e7 0 0x3d20_c0e7
unfolding systematic of_bits of_int Ieee.le Ieee.lt Ieee.eq Ieee.add Ieee.sub Ieee.mul Ieee.div
gain_square_first = refl

-- the denominator's product is rounded, and so is its sum
pub denom_not_fused : part 0x40a0_0000 0x4040_0000 0 0 0 0x3f80_0000 ≡ entries 0x3d8a_9622 0 0x3d8a_9622
unfolding systematic of_bits of_int Ieee.le Ieee.lt Ieee.eq Ieee.add Ieee.sub Ieee.mul Ieee.div
denom_not_fused = refl

-- and rho * rho
pub residual_not_fused : part 0x3f00_0000 0x3e99_999a 0x4000_0000 0x3f80_0000 0 0x40a0_0000 ≡ entries 0x4099_bdef 0x8000_0000 0x4089_d299
unfolding systematic of_bits of_int Ieee.le Ieee.lt Ieee.eq Ieee.add Ieee.sub Ieee.mul Ieee.div
residual_not_fused = refl

-- a denominator of 0 is the limit
pub limit_at_zero : part 0 0 0 0 0 0 ≡ entries 0 0 0
unfolding systematic of_bits of_int Ieee.le Ieee.lt Ieee.eq Ieee.add Ieee.sub Ieee.mul Ieee.div
limit_at_zero = refl

-- also with a gain
pub limit_by_denom : part 0x3f80_0000 0 0 0 0 0 ≡ entries 0 0 0
unfolding systematic of_bits of_int Ieee.le Ieee.lt Ieee.eq Ieee.add Ieee.sub Ieee.mul Ieee.div
limit_by_denom = refl

-- there the offset is the error
pub limit_error : part 0 0 0 0x3f80_0000 0 0 ≡ entries 0x3f80_0000 0 0
unfolding systematic of_bits of_int Ieee.le Ieee.lt Ieee.eq Ieee.add Ieee.sub Ieee.mul Ieee.div
limit_error = refl

-- shrink is (g * prior) / denom
pub shrink_from_left : part 0x4040_0000 0 0 0x3f80_0000 0 0x40a0_0000 ≡ entries 0x3ee3_8e37 0 0
unfolding systematic of_bits of_int Ieee.le Ieee.lt Ieee.eq Ieee.add Ieee.sub Ieee.mul Ieee.div
shrink_from_left = refl

-- not by an inverse, nor prior * (g / denom)
pub shrink_divided : part 0x3f80_0000 0x3f80_0000 0 0x4040_0000 0 0x4040_0000 ≡ entries 0x4057_829d 0 0x3edb_6db7
unfolding systematic of_bits of_int Ieee.le Ieee.lt Ieee.eq Ieee.add Ieee.sub Ieee.mul Ieee.div
shrink_divided = refl

-- the error is u - shrink * u, not (1 - shrink) * u
pub error_subtracted : part 0x4040_0000 0 0 0 0x4040_0000 0x3f80_0000 ≡ entries 0 0 0x4080_0000
unfolding systematic of_bits of_int Ieee.le Ieee.lt Ieee.eq Ieee.add Ieee.sub Ieee.mul Ieee.div
error_subtracted = refl

-- not fused
pub error_not_fused : part 0x4040_0000 0x4000_0000 0 0x4040_0000 0 0x3f80_0000 ≡ entries 0x4102_5d23 0 0x3d8f_b824
unfolding systematic of_bits of_int Ieee.le Ieee.lt Ieee.eq Ieee.add Ieee.sub Ieee.mul Ieee.div
error_not_fused = refl

-- nor is its square with the spread
pub square_not_fused : part 0x3f80_0000 0x3f80_0000 0 0x3f80_0000 0 0x3f80_0000 ≡ entries 0x3f6d_d28e 0 0x3d9d_89d9
unfolding systematic of_bits of_int Ieee.le Ieee.lt Ieee.eq Ieee.add Ieee.sub Ieee.mul Ieee.div
square_not_fused = refl

-- the spread is (prior * rho2) / denom
pub spread_from_left : part 0x3f80_0000 0x3f80_0000 0 0 0 0x3f80_0000 ≡ entries 0x3d9d_89d9 0 0x3d9d_89d9
unfolding systematic of_bits of_int Ieee.le Ieee.lt Ieee.eq Ieee.add Ieee.sub Ieee.mul Ieee.div
spread_from_left = refl

-- not rho2 * (prior / denom)
pub spread_divided : part 0 0x40a0_0000 0 0 0 0x3f80_0000 ≡ entries 0x3daa_aaac 0 0x3daa_aaac
unfolding systematic of_bits of_int Ieee.le Ieee.lt Ieee.eq Ieee.add Ieee.sub Ieee.mul Ieee.div
spread_divided = refl

-- rho2 is one product
pub spread_of_square : part 0 0x40a0_0000 0 0 0 0x40a0_0000 ≡ entries 0x4005_5555 0 0x4005_5555
unfolding systematic of_bits of_int Ieee.le Ieee.lt Ieee.eq Ieee.add Ieee.sub Ieee.mul Ieee.div
spread_of_square = refl

-- not prior * (1 - g * shrink)
pub spread_not_shrunk : part 0x3f80_0000 0x4000_0000 0 0 0 0x3f80_0000 ≡ entries 0x3da7_2f05 0 0x3da7_2f05
unfolding systematic of_bits of_int Ieee.le Ieee.lt Ieee.eq Ieee.add Ieee.sub Ieee.mul Ieee.div
spread_not_shrunk = refl

-- the floor's square is rounded
pub floor_not_fused : part 0x4000_0000 0x3f80_0000 0x3e4c_cccd 0 0 0x3f80_0000 ≡ entries 0x3dd1_eb86 0 0x3dd1_eb86
unfolding systematic of_bits of_int Ieee.le Ieee.lt Ieee.eq Ieee.add Ieee.sub Ieee.mul Ieee.div
floor_not_fused = refl

-- and added to the spread before the error's square is
pub floor_before_error : part 0x3f80_0000 0x3f80_0000 0x3f80_0000 0x3f80_0000 0 0x3f80_0000 ≡ entries 0x3ff6_e948 0 0x3f89_d89e
unfolding systematic of_bits of_int Ieee.le Ieee.lt Ieee.eq Ieee.add Ieee.sub Ieee.mul Ieee.div
floor_before_error = refl

-- in the limit too
pub floor_with_spread : part 0 0 0x3f80_0000 0 0x3f80_0000 0x3f80_0000 ≡ entries 0x3f8a_aaab 0 0x4005_5556
unfolding systematic of_bits of_int Ieee.le Ieee.lt Ieee.eq Ieee.add Ieee.sub Ieee.mul Ieee.div
floor_with_spread = refl
