-- Thousandths: the whole number nearest to 1,000 times a float's exact value, halves going up. No product of floats is rounded.
use Rattle.std.specs.Prelude.{ℕ, ◌+◌, ◌-◌, ◌*◌, ◌/◌, ◌^◌, min, cond, Float}
use Rattle.std.specs.Float.{nan, inf, fin}
use Rattle.std.specs.Float.Ieee.{up, down}

-- Those of a / c: 1,000 a / c and a half, cut down. That this is the nearest is a law (Nearest).
abbrev pub thousandths : ℕ → ℕ → ℕ
thousandths a c = (a * 2000 + c) / (c * 2)

-- Those of a float, as a number of 32 bits: 0 for a NaN and below zero, and the largest where there are more.
unfoldable pub milli_of : Float → ℕ
milli_of nan = 0
milli_of (inf s) = cond s 0 (2 ^ 32 - 1)
milli_of (fin s m e) = cond s 0 (min (thousandths (m * up e) (down e)) (2 ^ 32 - 1))
