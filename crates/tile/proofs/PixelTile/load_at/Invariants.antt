-- Each turn lays the next row of the tile.
use Rattle.std.proofs.Common.{◌*◌}
use Rattle.laws.proofs.Fill.{Rows}
use Rattle.tile.specs.Tile.{ByteSamples}
use Rattle.tile.proofs.Loading.{row_of}
use Rattle.tile.proofs.PixelTile.load_at.Given as goal

abbrev pub invariant-loop-j : goal.invariant-loop-j
invariant-loop-j l = record {
  bytes : ByteSamples l.samples;
  rows : Rows (row_of l.pixels l.width l.columns l.rows) l.initial.samples 17 (l.j * 17) l.j l.samples;
}
