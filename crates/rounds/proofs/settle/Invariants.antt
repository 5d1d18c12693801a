-- `settle` meets its contract. What is left of the rounds, from those evaluated, ends as all of them do. Assumes nothing.
use Rattle.std.proofs.Common.{◌≡◌, Float}
use Rattle.sums.specs.declared.Total.{Total}
use Rattle.rounds.specs.Rounds.{max_rounds}
use Rattle.rounds.proofs.Turns.{Turning}
use Rattle.rounds.proofs.settle.Given as goal

abbrev pub invariant-loop : goal.invariant-loop
invariant-loop g l =
    (l.s.rounds ≡ l.counter)
    × ((f : Float → Total) → ((v : Float) (k : Total) → goal.F-post g l.admits v k → k ≡ f v) → Turning max_rounds f l.start l.s)
