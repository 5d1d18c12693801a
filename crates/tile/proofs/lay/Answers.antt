use Rattle.std.proofs.Common.{sym, ap, ◌∙◌, subst, arith}
use lib.ListN.{length-set}
use Rattle.ieee.specs.Numbers.{f32_of}
use Rattle.laws.proofs.Fill.{row_put}
use Rattle.tile.specs.Tile.{IsByte}
use Rattle.tile.proofs.Bytes.{byte_is, set_bytes}
use Rattle.tile.proofs.lay.Goals as goal

pub loop-k-preserved : goal.loop-k-preserved
loop-k-preserved g c =
    let i = c.loop-k.invariant in
    record {
      long = length-set c.loop-k.samples _ _ ∙ i.long;
      bytes = λ b. set_bytes c.loop-k.samples _ _ i.long (omega (arith, c.requires.room)) (subst IsByte (sym c.from.ensures) (byte_is c.pixel.result c.pixel.type_inv)) (i.bytes b);
      row = λ f h. row_put (i.row f h) c.loop-k-test.true (omega (arith, c.requires.room)) (c.from.ensures ∙ ap f32_of (h _ _ c.loop-k-test.true c.pixel.ensures));
    }
