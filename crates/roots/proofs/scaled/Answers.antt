-- A field above 0 has all 53 digits; at a field of 0 the digits move up until the first is a 1.
use Rattle.roots.proofs.Scaling.{lz_in, low_hi, scaled_low, scaled_high}
use Prim.Native.Nat.{◌*◌, ◌<◌, ◌%◌, ◌^◌}
use native.Mathlib.Omega.{arith}
use Rattle.roots.proofs.scaled.Goals as goal

pub overflow_sub-up : goal.overflow_sub-up
overflow_sub-up c = omega (arith, lz_in c.args.a c.requires.1 c.if-field-eq0.true c.requires.0)

pub overflow_mul-result : goal.overflow_mul-result
overflow_mul-result c =
    let small : c.args.a % 2 ^ 52 * c.pow2.result < 2 ^ 53 = rw (c.pow2.ensures, c.from-up.ensures) (low_hi c.args.a c.requires.1 c.if-field-eq0.true c.requires.0) in
    omega (arith, small)

pub returns-then-field-eq0 : goal.returns-then-field-eq0
returns-then-field-eq0 c = rw (c.pow2.ensures, c.from-up.ensures) (scaled_low c.args.a c.requires.1 c.if-field-eq0.true c.requires.0)

pub returns-else-field-eq0 : goal.returns-else-field-eq0
returns-else-field-eq0 c = scaled_high c.args.a c.requires.1 (omega (arith, c.if-field-eq0.false))
