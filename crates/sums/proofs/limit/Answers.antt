-- `limit` meets its contract: it is its definition, operation by operation. Assumes nothing.
use Rattle.std.proofs.Common.{ap, ◌∙◌}
use lib.Ieee.{Float, binary32, binary64, mul, of_bits, of_int, round}
use Rattle.ieee.specs.Convert.{convert}
use Rattle.sums.proofs.limit.Goals as goal

pub returns : goal.returns
unfolding of_bits of_int round
returns c = c.to_f32.ensures ∙ ap (λ (x : Float). convert binary32 (mul binary64 c.args.factor x)) c.max.ensures
