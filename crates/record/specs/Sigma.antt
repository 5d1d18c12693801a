-- What the rule's bound on sigma's bits is to mean.
use Rattle.std.specs.Prelude.{◌≡◌, false, T, Float}
use Rattle.std.specs.Float.Ieee.{le}
use Rattle.ieee.specs.Order.{negative}
use Rattle.ieee.specs.Numbers.{plus_zero, f32_of}

-- 0 to 1,000 without a minus sign, as the machine compares: no NaN is at most 1,000, and minus zero has the sign
abbrev pub ToThousand : Float → Type 0
ToThousand x = (negative x ≡ false) × T (le plus_zero x) × T (le x (f32_of 1000))
