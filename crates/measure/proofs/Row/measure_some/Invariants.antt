-- `measure::Row::measure_some` meets its contract: each column is a row that is written from `to` on.
use mathlib.Core.Path.{◌≡◌}
use mathlib.Core.List.{List}
use Prim.Native.Nat.{ℕ, ◌*◌, ◌<◌}
use lib.ListN.{length, drop}
use lib.IntN.{ℤ}
use Rattle.laws.proofs.Fill.{Row}
use Rattle.window.specs.declared.WindowStats.{WindowStats}
use Rattle.measure.specs.Columns.{column_count, field}
use Rattle.measure.specs.Loops.{column, figure_of_words}
use Rattle.measure.proofs.Row.measure_some.Given as goal

pub record Inv (f : ℕ → WindowStats) (n : ℕ) (l₀ : List ℤ) (t to : ℕ) (l : List ℤ) (k : ℕ) : Type 0 where
  pub each : (i : ℕ) → i < column_count → Row (λ j. field i (f j)) (column t i l₀) to n k (column t i l)
  pub beyond : drop (column_count * t) l ≡ drop (column_count * t) l₀
  pub long : length l ≡ length l₀

abbrev pub invariant-loop-k : goal.invariant-loop-k
invariant-loop-k l = Inv (figure_of_words l.a l.b l.c l.d) l.self.n l.initial.ints l.t l.to l.ints l.k
