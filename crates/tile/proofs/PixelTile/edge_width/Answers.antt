-- The steps put together; the gradients of whole numbers are clear, so that the eight largest are theirs.
use Rattle.tile.proofs.Edges.{grads_clear, vals_upto, flat_is, width_is}
use Rattle.tile.proofs.PixelTile.edge_width.Goals as goal

pub steepness-g-requires : goal.steepness-g-requires
steepness-g-requires c = let s = c.args.self in grads_clear s.samples _ _ _ c.down.ensures c.across.ensures c.gradients.ensures s.bytes

pub contrast-requires : goal.contrast-requires
contrast-requires c = let s = c.args.self in vals_upto s.samples _ _ _ c.down.ensures c.across.ensures c.gradients.ensures s.bytes _ c.values-values.ensures

pub returns-then-g : goal.returns-then-g
returns-then-g c =
    width_is c.args.self.samples _ _ _ c.down.ensures c.across.ensures c.gradients.ensures
    _ c.steepness-g.ensures _ _ c.values-values.ensures c.contrast.ensures c.if-g.true

pub returns-else-g : goal.returns-else-g
returns-else-g c = flat_is c.args.self.samples _ _ _ c.down.ensures c.across.ensures c.gradients.ensures _ c.steepness-g.ensures c.if-g.false
