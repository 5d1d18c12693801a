-- `next` meets its contract: it is its definition, operation by operation. Assumes nothing.
use mathlib.Core.Path.{ap}
use lib.Ieee.{Float, binary64, div, of_bits, round}
use Rattle.rounds.specs.Numbers.{trunc_second_moment}
use Rattle.rounds.specs.Rounds.{next}
use Rattle.rounds.proofs.next.Goals as goal

pub returns : goal.returns
unfolding next of_bits round
returns c = ap (λ (x : Float). div binary64 (div binary64 c.args.k.sum x) trunc_second_moment) c.nearest_usize_to_f64.ensures
