use Rattle.std.proofs.Common.{arith}
use lib.Ieee.{of_bits}
use Rattle.sums.proofs.Starts.{mean_none, mean_is, quiet_few, quiet_end}
use Rattle.sums.proofs.Band.mean_quiet.Goals as goal

pub overflow_add-n : goal.overflow_add-n
overflow_add-n c = omega (arith, quiet_few c.loop-k.invariant)

pub returns-then-n-eq0 : goal.returns-then-n-eq0
unfolding of_bits
returns-then-n-eq0 c =
    let l = c.loop-k in
    quiet_end l.invariant c.loop-k-test.false (mean_none l.sum l.n c.if-n-eq0.true)

pub returns : goal.returns
returns c =
    let l = c.loop-k in
    quiet_end l.invariant c.loop-k-test.false (mean_is l.sum l.n c.if-n-eq0.false c.nearest_usize_to_f64.ensures)
