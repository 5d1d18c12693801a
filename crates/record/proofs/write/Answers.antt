use native.Mathlib.Omega.{arith}
use lib.ListN.{length-take}
use Rattle.record.proofs.write.Goals as goal

pub copy_from_slice-requires : goal.copy_from_slice-requires
copy_from_slice-requires c = omega (arith, length-take 35 c.args.out.now)
