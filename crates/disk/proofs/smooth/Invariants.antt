-- Place by place.
use Rattle.laws.proofs.Fill.{Tab}
use Rattle.disk.specs.Strided.{strided}
use Rattle.disk.proofs.smooth.Given as goal

abbrev pub invariant-loop-k : goal.invariant-loop-k
invariant-loop-k g l = Tab (λ k. strided l.values k g.row.STRIDE) g.row.M l.k l.out
