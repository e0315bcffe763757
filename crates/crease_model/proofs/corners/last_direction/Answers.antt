use Rattle.std.proofs.Common.{sym, ◌∙◌}
use Rattle.crease_model.proofs.LastSides.{last_side}
use Rattle.crease_model.proofs.corners.last_direction.Goals as goal

pub returns : goal.returns
returns c = c.direction.ensures.value
    ∙ sym (last_side c.args.corners.now c.index-corners-corners.result c.index-corners-0.result c.requires
    c.index-corners-corners.is c.index-corners-0.is)
