-- The answer of the tile that `load` gives, or its refusal.
use Rattle.std.proofs.Common.{◌∙◌}
use Rattle.edge.proofs.Tiles.{width_is, refused_is}
use Rattle.edge.proofs.edge_width.Goals as goal

pub returns-in-Ok : goal.returns-in-Ok
returns-in-Ok c =
    let s = c.args.img in
    c.edge_width.ensures ∙ width_is s.pixels.now s.width s.height s.origin c.args.centre _ c.in-Ok.ensures

pub returns-in-Err : goal.returns-in-Err
returns-in-Err c =
    let s = c.args.img in
    refused_is s.pixels.now s.width s.height s.origin c.args.centre _ c.in-Err.ensures
