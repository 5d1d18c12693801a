-- A figure or a number as one number of 64 bits: the figure, or 4,294,967,296 plus the number.
use Rattle.std.specs.Prelude.{ℕ, ◌+◌, Result, Ok, Err}
use Rattle.std.specs.Float.{binary32}
use Rattle.std.specs.Float.Ieee.{to_bits}
use Rattle.numbers.specs.declared.Number.{Number}
use Rattle.numbers.specs.Numbers.{number_of}
use Rattle.tile.specs.declared.EdgeWidth.{EdgeWidth}
use Rattle.tile.specs.declared.EdgeWidth.TheVariants.{Width, Refused}

-- a number, past every figure of 32 bits
abbrev pub code_of : ℕ → ℕ
code_of number = 4294967296 + number

-- the sizing call's answer
abbrev pub size_code : Result ℕ Number → ℕ
size_code (Ok m) = m
size_code (Err why) = code_of (number_of why)

-- the edge call's: a width by its bits
abbrev pub width_code : EdgeWidth → ℕ
width_code (Width x) = to_bits binary32 x
width_code (Refused why) = code_of (number_of why)
