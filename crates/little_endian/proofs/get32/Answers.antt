-- At most four bytes fit 32 bits.
use native.Mathlib.Nat.{pow-le-pow_right}
use native.Mathlib.Omega.{arith}
use Rattle.little_endian.proofs.get32.Goals as goal

pub overflow_cast-result : goal.overflow_cast-result
overflow_cast-result c = omega (arith, c.get.ensures.1, pow-le-pow_right {n = 256} (omega arith) {i = c.args.count} {j = 4} c.requires.0)
