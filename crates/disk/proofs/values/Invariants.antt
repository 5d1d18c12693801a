-- The m-th value is that of the m-th place.
use Prim.Native.Nat.{◌/◌, ◌%◌}
use lib.ListN.{get_or}
use Rattle.laws.proofs.Fill.{Tab}
use Rattle.disk.specs.Rows.{read}
use Rattle.disk.specs.Disk.{disk}
use Rattle.disk.proofs.values.Given as goal

abbrev pub invariant-loop-m : goal.invariant-loop-m
invariant-loop-m l = Tab (λ i. read l.smooth (get_or disk i 0 / 17) (get_or disk i 0 % 17)) 81 l.m l.out
