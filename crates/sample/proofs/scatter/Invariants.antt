-- `sample::scatter` meets its contract.
use Rattle.sample.proofs.Scattering.{Scattering}
use Rattle.sample.proofs.scatter.Given as goal

abbrev pub invariant-loop-k : goal.invariant-loop-k
invariant-loop-k l = Scattering l.t l.ints l.initial.floats l.floats l.next l.k
