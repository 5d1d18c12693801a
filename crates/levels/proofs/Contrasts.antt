-- The levels from the highest and the lowest value, as the code works them out.
use mathlib.Core.Path.{◌≡◌}
use mathlib.Core.List.{List}
use lib.Ieee.{Float, binary32, add, sub, mul, le, of_bits}
use Rattle.levels.specs.Filtered.{filtered}
use Rattle.levels.specs.Levels.{mean_of, highest, lowest, fifth, high_level, low_level}
use Rattle.levels.proofs.Constants.{fifth_is}

-- a fifth of a range, with the code's constant
abbrev pub band : Float → Float → Float
band most least = mul binary32 (of_bits binary32 0x3e4c_cccd) (sub binary32 most least)

module _ (l : List Float) (most least : Float) (p : most ≡ highest l) (q : least ≡ lowest l) where
  band_is : band most least ≡ fifth l
  band_is = λ i. mul binary32 (fifth_is i) (sub binary32 (p i) (q i))

  pub high_is : mean_of (filtered (λ v. le (sub binary32 most (band most least)) v) l) ≡ high_level l
  unfolding high_level
  high_is = λ i. mean_of (filtered (λ v. le (sub binary32 (p i) (band_is i)) v) l)

  pub low_is : mean_of (filtered (λ v. le v (add binary32 least (band most least))) l) ≡ low_level l
  unfolding low_level
  low_is = λ i. mean_of (filtered (λ v. le v (add binary32 (q i) (band_is i))) l)
