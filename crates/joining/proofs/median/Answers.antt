use Rattle.std.proofs.Common.{◌<◌, arith}
use lib.Ieee.{of_bits, round}
use Rattle.quantile.proofs.Inserting.{no_number, held_rises, insert_asks, insert_gives}
use Rattle.joining.specs.Joining.{variances}
use Rattle.joining.proofs.Joins.{collected_start, collected_none, collected_some, collected_end, median_odd, median_even, median_some}
use Rattle.joining.proofs.median.Goals as goal
use Rattle.joining.proofs.median.Goals.{in-Some, in_default}

pub loop-found-init : goal.loop-found-init
loop-found-init c = collected_start c.args.bands.now _ no_number.1

pub insert-requires : goal.insert-requires
insert-requires c =
    let l = c.loop-found in
    (omega arith, (omega arith, insert_asks l.least (held_rises l.invariant.held)))

pub loop-found-preserved : goal.loop-found-preserved
loop-found-preserved c = elim c.match-found.branch [
  | in-Some w ↦
      let f = w.in-Some.found in
      rw (w.least-is, w.n-is) (collected_some c.loop-found.invariant (omega arith) f w.in-Some.is (insert_gives 4 f.var c.loop-found.least w.insert.ensures))
  | in_default w ↦ rw (w.least-is, w.n-is) (collected_none c.loop-found.invariant (omega arith) w.in_default.is)
]

pub returns-in_default-n : goal.returns-in_default-n
returns-in_default-n c =
    let vars = variances c.args.bands.now in
    let l = c.loop-found in
    let all = collected_end l.invariant (omega arith) in
    median_some vars all (omega arith) (median_odd vars l.least l.n (omega (arith, l.invariant.few)) all l.invariant.held c.if-n-eq1.true)

pub returns-in_default-2 : goal.returns-in_default-2
unfolding of_bits round
returns-in_default-2 c =
    let vars = variances c.args.bands.now in
    let l = c.loop-found in
    let all = collected_end l.invariant (omega arith) in
    let some : 0 < l.n = omega arith in
    median_some vars all some (median_even vars l.least l.n (omega (arith, l.invariant.few)) all l.invariant.held some c.if-n-eq1.false)
