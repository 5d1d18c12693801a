-- The m-th squared gradient is that of the m-th place, whose neighbours lie one and 17 places off.
use Prim.Native.Nat.{◌/◌, ◌%◌}
use lib.ListN.{get_or}
use Rattle.laws.proofs.Fill.{Tab}
use Rattle.disk.specs.Rows.{read}
use Rattle.disk.specs.Disk.{disk}
use Rattle.disk.specs.Gradients.{squared_at}
use Rattle.disk.proofs.gradients.Given as goal

abbrev pub invariant-loop-m : goal.invariant-loop-m
invariant-loop-m l = Tab (λ i. squared_at (read l.smooth) (get_or disk i 0 / 17) (get_or disk i 0 % 17)) 81 l.m l.out
