-- Neither pattern is a NaN's, and the digits are at most 2 ^ 23 more than 2 ^ 23.
use native.Mathlib.Omega.{arith}
use Prim.Native.Nat.{◌-◌, ◌/◌}
use lib.Ieee.{binary64}
use Rattle.ieee.proofs.Reading.{plain_pattern}
use Rattle.convert.proofs.Nan.{no_nan}
use Rattle.roots.proofs.guess.Goals as goal

pub float_from_bits-x : goal.float_from_bits-x
float_from_bits-x c = plain_pattern binary64 c.args.b (omega arith)

pub float_from_bits-y0 : goal.float_from_bits-y0
float_from_bits-y0 c = plain_pattern binary64 (0x5fe6_eb50_c7b5_37a9 - c.args.b / 2) (omega arith)

pub float_to_bits-result : goal.float_to_bits-result
float_to_bits-result c = no_nan _ c.is_nan.ensures.value c.if-is_nan.false
