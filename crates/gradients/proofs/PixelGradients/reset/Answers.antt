-- Zeros, where nothing refuses the support. Assumes nothing.
use mathlib.Core.Path.{ap}
use lib.Ieee.{of_bits}
use Rattle.std.specs.Prelude.{Result}
use Rattle.numbers.specs.declared.Number.{Number}
use Rattle.gradients.specs.Gradients.{cleared_state, handed, reset_of}
use Rattle.gradients.proofs.PixelGradients.reset.Goals as goal

pub returns : goal.returns
unfolding reset_of of_bits
returns c = ap (λ (r : Result Unit Number). handed r c.args.self (λ _. cleared_state c.args.origin c.args.side)) c.in_default.ensures
