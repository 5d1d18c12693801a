-- Worked cases at which another form of a + t * (b - a), or of the tests at the knots, gives another number. Floats are given by
-- their f32 patterns. Assumes nothing.
use mathlib.Core.Path.{◌≡◌, refl}
use mathlib.Core.Bool.{true, false}
use mathlib.Core.List.{List, [], ◌∷◌, map}
use Prim.Native.Nat.{ℕ}
use lib.Ieee
use lib.Ieee.{Float, binary32, of_bits}
use Rattle.ieee.specs.Order.{finite}
use Rattle.ranges.specs.Ranges.{within}
use Rattle.std.specs.Prelude.{Some, None}
use Rattle.knots.specs.Places.{rises_at, knot_at, place, value_at}

abbrev floats : List ℕ → List Float
floats l = map (of_bits binary32) l

-- the gain of three knots at a width
abbrev gain_at : List ℕ → List ℕ → ℕ → Float
gain_at widths gains w = value_at (floats gains) (place (floats widths) 3 (Some (of_bits binary32 w)))

-- the widths 0, 3 and 4
abbrev apart : List ℕ
apart = 0 ∷ 0x4040_0000 ∷ 0x4080_0000 ∷ []

-- gains 1, -1, 0 at 1: not (1 - t) * a + t * b
pub not_weighted : gain_at apart (0x3f80_0000 ∷ 0xbf80_0000 ∷ 0 ∷ []) 0x3f80_0000 ≡ of_bits binary32 0x3eaa_aaaa
unfolding value_at place finite of_bits Ieee.le Ieee.lt Ieee.eq Ieee.add Ieee.sub Ieee.mul Ieee.div
not_weighted = refl

-- gains -1, 2, 0 at 1: not fused
pub not_fused : gain_at apart (0xbf80_0000 ∷ 0x4000_0000 ∷ 0 ∷ []) 0x3f80_0000 ≡ of_bits binary32 0
unfolding value_at place finite of_bits Ieee.le Ieee.lt Ieee.eq Ieee.add Ieee.sub Ieee.mul Ieee.div
not_fused = refl

-- gains 0, 1, 0 at 1: not b - (1 - t) * (b - a)
pub from_below : gain_at apart (0 ∷ 0x3f80_0000 ∷ 0 ∷ []) 0x3f80_0000 ≡ of_bits binary32 0x3eaa_aaab
unfolding value_at place finite of_bits Ieee.le Ieee.lt Ieee.eq Ieee.add Ieee.sub Ieee.mul Ieee.div
from_below = refl

-- gains -3, 2, 0 at 1: not (w - a) * (difference of gains) / (difference of widths), nor by a slope
pub part_first : gain_at apart (0xc040_0000 ∷ 0x4000_0000 ∷ 0 ∷ []) 0x3f80_0000 ≡ of_bits binary32 0xbfaa_aaaa
unfolding value_at place finite of_bits Ieee.le Ieee.lt Ieee.eq Ieee.add Ieee.sub Ieee.mul Ieee.div
part_first = refl

-- gains 1, 0, 0 at 1: not in f64
pub in_f32 : gain_at apart (0x3f80_0000 ∷ 0 ∷ 0 ∷ []) 0x3f80_0000 ≡ of_bits binary32 0x3f2a_aaaa
unfolding value_at place finite of_bits Ieee.le Ieee.lt Ieee.eq Ieee.add Ieee.sub Ieee.mul Ieee.div
in_f32 = refl

-- knots (0, -0.5), (0.3, 1), (2, 0) at 1: nor is t
pub part_f32 : gain_at (0 ∷ 0x3e99_999a ∷ 0x4000_0000 ∷ []) (0xbf00_0000 ∷ 0x3f80_0000 ∷ 0 ∷ []) 0x3f80_0000 ≡ of_bits binary32 0x3f16_9697
unfolding value_at place finite of_bits Ieee.le Ieee.lt Ieee.eq Ieee.add Ieee.sub Ieee.mul Ieee.div
part_f32 = refl

-- knots (0, 1), (0.5, 0), (4, 1) at 2: t is a quotient, not a product by an inverse
pub part_divided : gain_at (0 ∷ 0x3f00_0000 ∷ 0x4080_0000 ∷ []) (0x3f80_0000 ∷ 0 ∷ 0x3f80_0000 ∷ []) 0x4000_0000 ≡ of_bits binary32 0x3edb_6db7
unfolding value_at place finite of_bits Ieee.le Ieee.lt Ieee.eq Ieee.add Ieee.sub Ieee.mul Ieee.div
part_divided = refl

-- a width at an inner knot, or at the last, lies in the stretch below it, and misses that knot's 0.2 by rounding
pub at_inner : gain_at (0x4000_0000 ∷ 0x4040_0000 ∷ 0x4080_0000 ∷ []) (0x3f80_0000 ∷ 0x3e4c_cccd ∷ 0 ∷ []) 0x4040_0000 ≡ of_bits binary32 0x3e4c_cccc
unfolding value_at place finite of_bits Ieee.le Ieee.lt Ieee.eq Ieee.add Ieee.sub Ieee.mul Ieee.div
at_inner = refl

pub at_last : gain_at (0 ∷ 0x4000_0000 ∷ 0x4040_0000 ∷ []) (0 ∷ 0x3f80_0000 ∷ 0x3e4c_cccd ∷ []) 0x4040_0000 ≡ of_bits binary32 0x3e4c_cccc
unfolding value_at place finite of_bits Ieee.le Ieee.lt Ieee.eq Ieee.add Ieee.sub Ieee.mul Ieee.div
at_last = refl

-- one at the first is at that knot: a gain of -0 stays so
pub at_first : gain_at (0 ∷ 0x3f80_0000 ∷ 0x4000_0000 ∷ []) (0x8000_0000 ∷ 0x8000_0000 ∷ 0 ∷ []) 0 ≡ of_bits binary32 0x8000_0000
unfolding value_at place finite of_bits Ieee.le Ieee.lt Ieee.eq Ieee.add Ieee.sub Ieee.mul Ieee.div
at_first = refl

abbrev three : List ℕ
three = 0x4000_0000 ∷ 0x4040_0000 ∷ 0x4080_0000 ∷ []

-- gains 2, 3, 4: an infinite width or a NaN gives the first, and so do -1 and none; 5 gives the last
pub ends : gain_at apart three 0x7f80_0000 ∷ gain_at apart three 0xff80_0000 ∷ gain_at apart three 0x7fc0_0000 ∷ gain_at apart three 0xbf80_0000 ∷ value_at (floats three) (place (floats apart) 3 None) ∷ gain_at apart three 0x40a0_0000 ∷ []
    ≡ floats (0x4000_0000 ∷ 0x4000_0000 ∷ 0x4000_0000 ∷ 0x4000_0000 ∷ 0x4000_0000 ∷ 0x4080_0000 ∷ [])
unfolding value_at place finite of_bits Ieee.le Ieee.lt Ieee.eq Ieee.add Ieee.sub Ieee.mul Ieee.div
ends = refl

-- equal widths don't rise, zeros of either sign among them
pub strictly : rises_at (floats (0x3f80_0000 ∷ 0x3f80_0001 ∷ [])) 0 ∷ rises_at (floats (0x3f80_0000 ∷ 0x3f80_0000 ∷ [])) 0 ∷ rises_at (floats (0x8000_0000 ∷ 0 ∷ [])) 0 ∷ []
    ≡ true ∷ false ∷ false ∷ []
unfolding of_bits Ieee.lt
strictly = refl

-- a knot's number is within 1,000: 1,000 and -1,000 are, the next floats, an infinity and a NaN are not
abbrev ends_of_range : List Float
ends_of_range = floats (0x447a_0000 ∷ 0xc47a_0000 ∷ 0x447a_0001 ∷ 0xc47a_0001 ∷ 0x7f80_0000 ∷ 0x7fc0_0000 ∷ [])

pub in_range : map (knot_at ends_of_range) (0 ∷ 1 ∷ 2 ∷ 3 ∷ 4 ∷ 5 ∷ []) ≡ true ∷ true ∷ false ∷ false ∷ false ∷ false ∷ []
unfolding within of_bits
in_range = refl
