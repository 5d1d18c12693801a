-- Numbers that definitions name.
use Rattle.std.specs.Prelude.{false, ℕ, pos, Float}
use Rattle.std.specs.Float.{fin, binary32, binary64}
use Rattle.std.specs.Float.Ieee.{of_int}

-- zero without a minus sign
abbrev pub plus_zero : Float
plus_zero = fin false 0 (pos 0)

-- a whole number as an f32, and as an f64: Rust's `n as f32` and `n as f64`, rounded once
abbrev pub f32_of : ℕ → Float
f32_of n = of_int binary32 (pos n)

abbrev pub f64_of : ℕ → Float
f64_of n = of_int binary64 (pos n)
