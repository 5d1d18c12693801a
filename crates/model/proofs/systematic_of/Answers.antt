-- Each way out is the one that the denominator's test chooses. Assumes nothing.
use lib.Ieee.{of_bits}
use Rattle.model.proofs.Formulas.{nothing_said, something_said}
use Rattle.model.proofs.systematic_of.Goals as goal

pub returns-then-denom : goal.returns-then-denom
unfolding of_bits
returns-then-denom c = let a = c.args in nothing_said a.k.gain a.k.residual a.floor a.offset a.grid c.uniform_variance-prior.ensures c.if-denom.true c.about_of.ensures

pub returns : goal.returns
unfolding of_bits
returns c = let a = c.args in something_said a.k.gain a.k.residual a.floor a.offset a.grid c.uniform_variance-prior.ensures c.if-denom.false c.about_of-2.ensures
