-- `measure` meets its contract: what lies beyond the cleared front no pass has changed.
use Rattle.std.proofs.Common.{rules, ◌≡◌, Float, ◌+◌, ◌*◌, List, ◌++◌}
use mathlib.Core.Path.{ap}
use lib.Ieee.{of_bits}
use lib.IntN.{ℤ, pos}
use lib.ListN.{drop, replicate}
use Rattle.ieee.specs.Numbers.{plus_zero}
use Rattle.noise.proofs.Passing.{cleared_ints_lem, cleared_floats_lem}
use Rattle.noise.proofs.measure.Goals as goal

pub returns : goal.returns
unfolding of_bits
returns c =
    let m = c.args.m in
    let ints : c.fill.new.self ≡ replicate (3 * m) (pos 0) = search rules in
    let floats : c.fill-2.new.self ≡ replicate (2 * m + 2) plus_zero = search rules in (
      c.passes-answer.ensures.0,
      cleared_ints_lem c.requires c.passes-answer.ensures.1 (ap (λ (l : List ℤ). l ++ drop (3 * m) c.passes-answer.new.ints) ints),
      cleared_floats_lem c.requires c.passes-answer.ensures.2 (ap (λ (l : List Float). l ++ drop (2 * m + 2) c.passes-answer.new.floats) floats),
    )
