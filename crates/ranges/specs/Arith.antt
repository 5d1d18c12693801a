-- f32 arithmetic as the formulas write it: each operation is rounded once.
use Rattle.std.specs.Prelude.{ℕ, false, List, get_or, Float}
use Rattle.std.specs.Float.Ieee
use Rattle.std.specs.Float.{nan, binary32}
use Rattle.std.specs.Float.Ieee.{round}
use Rattle.ieee.specs.Numbers.{f32_of}

infixl 68 ◌⊕◌ ◌⊖◌
infixl 69 ◌⊗◌ ◌⊘◌
abbrev pub ◌⊕◌ : Float → Float → Float
x ⊕ y = Ieee.add binary32 x y

abbrev pub ◌⊖◌ : Float → Float → Float
x ⊖ y = Ieee.sub binary32 x y

abbrev pub ◌⊗◌ : Float → Float → Float
x ⊗ y = Ieee.mul binary32 x y

abbrev pub ◌⊘◌ : Float → Float → Float
x ⊘ y = Ieee.div binary32 x y

abbrev pub at : List Float → ℕ → Float
at l k = get_or l k nan

abbrev pub one : Float
one = f32_of 1

abbrev pub twelve : Float
twelve = f32_of 12

-- 1 / 12, rounded to the nearest
abbrev pub twelfth : Float
twelfth = round binary32 false 1 12
