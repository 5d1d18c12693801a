-- Constants of noise.rs by the rule that gives them: the f64 nearest to the number. Their patterns stand beside them.
use Rattle.std.specs.Prelude.{◌≡◌, false, refl, Float}
use Rattle.std.specs.Float.{binary64}
use Rattle.std.specs.Float.Ieee.{of_bits, of_int, round}
use Rattle.ieee.specs.Numbers.{f64_of}

-- GATE
abbrev pub gate_factor : Float
gate_factor = f64_of 20

pub gate_factor_bits : of_bits binary64 0x4034_0000_0000_0000 ≡ gate_factor
unfolding of_bits of_int round
gate_factor_bits = refl

-- TRUNC
abbrev pub trunc : Float
trunc = f64_of 4

pub trunc_bits : of_bits binary64 0x4010_0000_0000_0000 ≡ trunc
unfolding of_bits of_int round
trunc_bits = refl

-- ROUNDING_OP_VAR
abbrev pub rounding_op_var : Float
rounding_op_var = round binary64 false 400 12

pub rounding_op_var_bits : of_bits binary64 0x4040_AAAA_AAAA_AAAB ≡ rounding_op_var
unfolding of_bits round
rounding_op_var_bits = refl
