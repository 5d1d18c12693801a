-- `near` meets its contract, by the test. Assumes nothing.
use Rattle.std.proofs.Common.{◌∙◌, ap, eq-eqb}
use lib.Ieee.{Float, binary64, mul, le, of_bits, round}
use Rattle.rounds.specs.Numbers.{settled_fraction}
use Rattle.rounds.proofs.Turns.{near_same, near_moved}
use Rattle.rounds.proofs.near.Goals as goal

pub returns-then-n-prev : goal.returns-then-n-prev
returns-then-n-prev c =
    let a = c.args in
    eq-eqb a.n a.prev c.if-n-prev.true ∙ near_same a.n a.prev a.new a.var c.if-n-prev.true

pub returns-else-n-prev : goal.returns-else-n-prev
unfolding of_bits round
returns-else-n-prev c =
    let a = c.args in
    ap (λ (x : Float). le x (mul binary64 settled_fraction a.var)) c.abs64.ensures ∙ near_moved a.n a.prev a.new a.var c.if-n-prev.false
