use Prim.Native.Nat.{◌+◌, ◌-◌, ◌<◌}
use native.Mathlib.Omega.{arith}
use Rattle.little_endian.proofs.Loops.{get_turn}
use Rattle.little_endian.proofs.get.Goals as goal

pub loop-k-preserved : goal.loop-k-preserved
loop-k-preserved c =
    let b : c.from.result < 256 = omega (arith, c.type_inv.bytes (c.args.at + (c.loop-k.k - 1))) in
    get_turn c.requires.1 c.loop-k-test.true b c.from.ensures c.loop-k.invariant
