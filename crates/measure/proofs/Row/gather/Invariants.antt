-- `measure::Row::gather` meets its contract: the front of words is written.
use Prim.Native.Nat.{ℕ, ◌+◌, ◌*◌}
use Rattle.laws.proofs.Fill.{Front}
use Rattle.window_stats.specs.Words.{word_at}
use Rattle.measure.proofs.Row.gather.Given as goal

abbrev pub invariant-loop-k : goal.invariant-loop-k
invariant-loop-k l =
    let r = l.self in
    Front (λ (i : ℕ). word_at r.img.now (r.at + l.y * r.w + i * r.s)) l.initial.words r.n l.k l.words
