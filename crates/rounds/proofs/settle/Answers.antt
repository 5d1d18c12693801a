use Rattle.std.proofs.Common.{arith}
use Rattle.rounds.proofs.Turns.{turning_last, turning_more, turning_end, counted, settle_is, under, used}
use Rattle.rounds.proofs.settle.Goals as goal

pub returns-in-Break : goal.returns-in-Break
returns-in-Break g c = λ f h.
    settle_is f c.args.start
    (turning_last (c.loop.invariant.1 f h) (under (omega arith)) (h _ _ c.admits.ensures) c.one_round.ensures c.in-Break.is)

pub loop-preserved : goal.loop-preserved
loop-preserved g c =
    (omega (arith, counted c.admits.result c.loop.s c.in-Continue.is c.one_round.ensures), λ f h. turning_more (c.loop.invariant.1 f h) (under (omega arith)) (h _ _ c.admits.ensures) c.one_round.ensures c.in-Continue.is)

pub returns : goal.returns
returns g c = λ f h.
    settle_is f c.args.start (turning_end (c.loop.invariant.1 f h) (used (omega arith)))
