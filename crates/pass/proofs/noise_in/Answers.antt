-- The bands lie one after the other in what is kept.
use Rattle.std.proofs.Common.{rules}
use Rattle.pass.proofs.noise_in.Goals as goal

pub invariant_of-noise_sigma-clause-rise : goal.invariant_of-noise_sigma-clause-rise
invariant_of-noise_sigma-clause-rise c = rw c.starts-starts.ensures (search rules)
