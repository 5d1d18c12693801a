-- `noise_sigma` meets its contract. After b bands the first b answers stand in the array, and the rounds are the image's and theirs. Assumes nothing.
use Rattle.joining.proofs.Noises.{Gathered}
use Rattle.joining.proofs.noise_sigma.Given as goal

abbrev pub invariant-loop-b : goal.invariant-loop-b
invariant-loop-b l = Gathered l.image.all.gate.now l.image.all.op.now l.image.starts l.whole.var l.whole.rounds l.found l.rounds l.b
