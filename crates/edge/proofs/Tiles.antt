-- The answer of what `load` answers is the call's.
use Rattle.std.proofs.Common.{◌≡◌, ℕ, List, length, ℤ, Result, Ok, Err, ap, ◌∙◌, arith}
use Rattle.std.specs.Result.{result_map_both}
use lib.Ieee.{Float}
use Rattle.disk.specs.Rows.{in_rows, read}
use Rattle.disk.specs.Smoothing.{smoothed}
use Rattle.disk.proofs.Places.{read_rows, smooth_same}
use Rattle.numbers.specs.declared.Number.{Number}
use Rattle.tile.specs.declared.EdgeWidth.TheVariants.{Refused}
use Rattle.tile.specs.Refusal.{refusal}
use Rattle.tile.specs.Tile.{tile, loaded}
use Rattle.tile.specs.Width.{edge_of}
use Rattle.tile.proofs.Edges.{edge_same}
use Rattle.edge.specs.Edge.{or_else, edge}

module _ (l : List ℕ) (w h : ℕ) (origin centre : List ℤ) where
  -- the samples read back by row and column
  square : edge_of (smoothed (read (in_rows (tile l w h origin centre) 289))) ≡ edge_of (smoothed (tile l w h origin centre))
  square =
      edge_same (smoothed (read (in_rows (tile l w h origin centre) 289))) (smoothed (tile l w h origin centre))
      (smooth_same (read (in_rows (tile l w h origin centre) 289)) (tile l w h origin centre) (λ y x a b. read_rows (tile l w h origin centre) 289 y x (omega arith) (omega arith)))

  pub width_is : (samples : List Float) → Ok samples ≡ loaded l w h origin centre → edge_of (smoothed (read samples)) ≡ edge l w h origin centre
  unfolding edge loaded
  width_is samples = go (refusal (length l) w h origin centre)
    where
      go : (r : Result (Unit {0}) Number) → Ok samples ≡ result_map_both (λ _. in_rows (tile l w h origin centre) 289) (λ why. why) r → edge_of (smoothed (read samples)) ≡ or_else r (edge_of (smoothed (tile l w h origin centre)))
      go (Ok x) e = let same : samples ≡ in_rows (tile l w h origin centre) 289 = cc in ap (λ (s : List Float). edge_of (smoothed (read s))) same ∙ square
      go (Err why) e = cc

  pub refused_is : (why : Number) → Err why ≡ loaded l w h origin centre → Refused why ≡ edge l w h origin centre
  unfolding edge loaded
  refused_is why = go (refusal (length l) w h origin centre)
    where
      go : (r : Result (Unit {0}) Number) → Err why ≡ result_map_both (λ _. in_rows (tile l w h origin centre) 289) (λ why. why) r → Refused why ≡ or_else r (edge_of (smoothed (tile l w h origin centre)))
      go (Ok x) e = cc
      go (Err y) e = cc
