-- Only for the law that sums of whole numbers are exact: a way of adding, which numbers, in which order, and how grouped.
use Rattle.std.specs.Prelude.{ℕ, ◌+◌, Float}
use Rattle.std.specs.Float.{binary32}
use Rattle.std.specs.Float.Ieee.{add}
use Rattle.ieee.specs.Numbers.{f32_of}

pub data Adding : Type 0 where
  one : ℕ → Adding
  both : Adding → Adding → Adding

-- the sum as a whole number, and the sum that f32 additions in this way make
abbrev pub exactly : Adding → ℕ
exactly (one n) = n
exactly (both a b) = exactly a + exactly b

abbrev pub in_floats : Adding → Float
in_floats (one n) = f32_of n
in_floats (both a b) = add binary32 (in_floats a) (in_floats b)
