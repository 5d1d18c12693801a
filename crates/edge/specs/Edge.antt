-- The edge call: 1, 2, 8 in this order, then 9 or the width.
use Rattle.std.specs.Prelude.{ℕ, List, length, ℤ, Result, Ok, Err}
use Rattle.disk.specs.Smoothing.{smoothed}
use Rattle.numbers.specs.declared.Number.{Number}
use Rattle.tile.specs.declared.EdgeWidth.{EdgeWidth}
use Rattle.tile.specs.declared.EdgeWidth.TheVariants.{Refused}
use Rattle.tile.specs.Refusal.{refusal}
use Rattle.tile.specs.Tile.{tile}
use Rattle.tile.specs.Width.{edge_of}

-- a refusal, or else this answer
abbrev pub or_else : Result (Unit {0}) Number → EdgeWidth → EdgeWidth
or_else (Ok x) answer = answer
or_else (Err why) answer = Refused why

unfoldable pub edge : List ℕ → ℕ → ℕ → List ℤ → List ℤ → EdgeWidth
edge l w h origin centre = or_else (refusal (length l) w h origin centre) (edge_of (smoothed (tile l w h origin centre)))
