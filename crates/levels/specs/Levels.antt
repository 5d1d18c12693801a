-- The levels of the disk's values: the means of those within a fifth of the range of the largest, and of the smallest.
use Rattle.std.specs.Prelude.{max, true, false, length, Float}
use mathlib.Core.List.{List, foldl}
use Rattle.std.specs.Float.{inf, binary32}
use Rattle.std.specs.Float.Ieee.{add, sub, mul, div, le, round}
use Rattle.ieee.specs.Order.{larger, smaller}
use Rattle.levels.specs.Filtered.{filtered}
use Rattle.ieee.specs.Numbers.{f32_of}

-- from the first to the last
abbrev pub summed : List Float → Float
summed l = foldl (add binary32) (f32_of 0) l

abbrev pub mean_of : List Float → Float
mean_of l = div binary32 (summed l) (f32_of (max (length l) 1))

abbrev pub highest : List Float → Float
highest l = foldl larger (inf true) l

abbrev pub lowest : List Float → Float
lowest l = foldl smaller (inf false) l

-- a fifth of the range
abbrev pub fifth : List Float → Float
fifth l = mul binary32 (round binary32 false 1 5) (sub binary32 (highest l) (lowest l))

unfoldable pub high_level : List Float → Float
high_level l = mean_of (filtered (λ v. le (sub binary32 (highest l) (fifth l)) v) l)

unfoldable pub low_level : List Float → Float
low_level l = mean_of (filtered (λ v. le v (add binary32 (lowest l) (fifth l))) l)
