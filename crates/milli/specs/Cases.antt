-- Sigmas that other ways to round would answer otherwise, and what is said at the ends.
use Rattle.std.specs.Prelude.{◌≡◌, refl, ℕ, ◌+◌, ◌*◌, ◌/◌, true, false, Float}
use Rattle.std.specs.Float.{nan, inf, fin, binary32}
use Rattle.std.specs.Float.Ieee.{up, down, of_bits, mul}
use Rattle.milli.specs.Thousandths.{milli_of}

-- 0.0625, 0.3125 and 0.1875 have a half, which goes up; to the even number it would be 62, 312 and 188
pub halves :
    (milli_of (of_bits binary32 0x3d80_0000) ≡ 63) × (milli_of (of_bits binary32 0x3ea0_0000) ≡ 313)
    × (milli_of (of_bits binary32 0x3e40_0000) ≡ 188)
unfolding milli_of of_bits
halves = (refl, refl, refl)

-- the two largest f32 with a half, 1,048,575.8125 and 1,048,575.9375
pub largest_halves :
    (milli_of (of_bits binary32 0x497f_fffd) ≡ 1048575813) × (milli_of (of_bits binary32 0x497f_ffff) ≡ 1048575938)
unfolding milli_of of_bits
largest_halves = (refl, refl)

-- 1.9996, which cut down would have 1,999
pub at_19996 : milli_of (of_bits binary32 0x3fff_f2e5) ≡ 2000
unfolding milli_of of_bits
at_19996 = refl

-- the largest f32 below 1.9995, whose ten-thousandths, 19,995, would be rounded again to 2,000
pub below_19995 : milli_of (of_bits binary32 0x3fff_ef9d) ≡ 1999
unfolding milli_of of_bits
below_19995 = refl

-- the largest f32 below 1.9985, and the next one
pub at_19985 : (milli_of (of_bits binary32 0x3fff_ced9) ≡ 1998) × (milli_of (of_bits binary32 0x3fff_ceda) ≡ 1999)
unfolding milli_of of_bits
at_19985 = (refl, refl)

-- the whole number nearest to a float without its sign, halves going up; 0 of one that has no value
to_whole : Float → ℕ
to_whole nan = 0
to_whole (inf s) = 0
to_whole (fin s m e) = (m * up e * 2 + down e) / (down e * 2)

-- 1,000 times the f32 with the pattern b, rounded to an f32 and to the nearest whole number
pub by_product : ℕ → ℕ
by_product b = to_whole (mul binary32 (of_bits binary32 b) (of_bits binary32 0x447a_0000))

pub below_19985_rounded : by_product 0x3fff_ced9 ≡ 1999
unfolding by_product to_whole mul of_bits
below_19985_rounded = refl

-- the largest f32 below half a thousandth, and the next one
pub least : (milli_of (of_bits binary32 0x3a03_126e) ≡ 0) × (milli_of (of_bits binary32 0x3a03_126f) ≡ 1)
unfolding milli_of of_bits
least = (refl, refl)

-- the largest sigma that is known of an image
pub largest_sigma : milli_of (of_bits binary32 0x43cc_1bfd) ≡ 408219
unfolding milli_of of_bits
largest_sigma = refl

-- the largest f32 whose thousandths fit 32 bits, and the next one
pub fits_still : milli_of (of_bits binary32 0x4a83_126e) ≡ 4294967000
unfolding milli_of of_bits
fits_still = refl

pub fits_no_more : milli_of (of_bits binary32 0x4a83_126f) ≡ 4294967295
unfolding milli_of of_bits
fits_no_more = refl

-- a NaN and what is below zero give 0, minus zero too; infinity gives the largest
pub below_zero : (milli_of nan ≡ 0) × (milli_of (inf true) ≡ 0) × (milli_of (of_bits binary32 0xbf80_0000) ≡ 0)
    × (milli_of (of_bits binary32 0x8000_0000) ≡ 0) × (milli_of (inf false) ≡ 4294967295)
unfolding milli_of of_bits
below_zero = (refl, refl, refl, refl, refl)
