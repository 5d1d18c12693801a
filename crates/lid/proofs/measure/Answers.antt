-- The noise call on memory for as many windows as there may be pixels.
use native.Mathlib.Omega.{arith}
use Rattle.lid.proofs.Answers.{by_noise}
use Rattle.lid.proofs.measure.Goals as goal

pub returns : goal.returns
returns c = by_noise c.args.pixels.now c.args.w c.args.h _ _ c.estimate_noise_sigma_u8.ensures.0 c.requires (omega arith) (omega arith)
