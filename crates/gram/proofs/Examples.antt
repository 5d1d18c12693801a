-- The order and the formats of the sums, on cases where another order or format gives another figure. Assumes nothing.
use mathlib.Core.Path.{◌≡◌, refl}
use mathlib.Core.List.{List, [], ◌∷◌, map}
use Prim.Native.Nat.{ℕ}
use lib.Ieee
use lib.Ieee.{Float, binary32, of_bits}
use Rattle.ieee.specs.Convert.{convert}
use Rattle.ieee.specs.Numbers.{plus_zero}
use Rattle.refine.specs.Covariance.{covariance, zeros}
use Rattle.gram.specs.Gram.{product_sum, gram}

abbrev floats : List ℕ → List Float
floats l = map (of_bits binary32) l

-- f32 patterns: 1, 4096, 4097, 2 ^ 30, -2 ^ 30 and 1.25 * 2 ^ -15
abbrev one : ℕ
one = 0x3f80_0000

abbrev large : ℕ
large = 0x4580_0000

abbrev odd : ℕ
odd = 0x4580_0800

abbrev big : ℕ
big = 0x4e80_0000

abbrev minus : ℕ
minus = 0xce80_0000

abbrev small : ℕ
small = 0x3820_0000

abbrev square : List ℕ → Float
square l = product_sum (floats l) (floats l)

-- the gradient (2, 3)
pub components : gram (floats (0x4000_0000 ∷ [])) (floats (0x4040_0000 ∷ [])) ≡ covariance (of_bits binary32 0x4080_0000) (of_bits binary32 0x40c0_0000) (of_bits binary32 0x4110_0000)
unfolding product_sum of_bits convert Ieee.add Ieee.mul
components = refl

-- no gradient
pub no_gradient : gram [] [] ≡ zeros
unfolding product_sum convert Ieee.add
no_gradient = refl

-- (p0 + p1) + (p2 + p3): one chain, ((p0 + p1) + p2) + p3 and (p0 + p2) + (p1 + p3) all end in 0
pub joined_in_pairs : square (large ∷ one ∷ small ∷ small ∷ []) ≡ of_bits binary32 0x4b80_0001
unfolding product_sum of_bits convert Ieee.add Ieee.mul
joined_in_pairs = refl

-- products 0, 2 ^ 60, -2 ^ 60 and 1: one chain would keep the 1
pub four_chains : product_sum (floats (0 ∷ big ∷ big ∷ one ∷ [])) (floats (0 ∷ big ∷ minus ∷ one ∷ [])) ≡ plus_zero
unfolding product_sum of_bits convert Ieee.add Ieee.mul
four_chains = refl

-- products aren't rounded to f32: 4097² would lose its 1
pub products_f64 : square (odd ∷ one ∷ 0 ∷ 0 ∷ []) ≡ of_bits binary32 0x4b80_1001
unfolding product_sum of_bits convert Ieee.add Ieee.mul
products_f64 = refl

-- nor are the sums
pub sums_f64 : square (large ∷ one ∷ one ∷ 0 ∷ []) ≡ of_bits binary32 0x4b80_0001
unfolding product_sum of_bits convert Ieee.add Ieee.mul
sums_f64 = refl

-- the rest is added to the first partial sum before the four are joined: added last, or in another lane, this ends in 0
pub rest_in_first : square (small ∷ large ∷ 0 ∷ 0 ∷ 0 ∷ one ∷ 0 ∷ 0 ∷ small ∷ []) ≡ of_bits binary32 0x4b80_0001
unfolding product_sum of_bits convert Ieee.add Ieee.mul
rest_in_first = refl
