use Rattle.std.proofs.Common.{ap, ◌∙◌}
use Rattle.plane_geometry.specs.Polygon.{have_directions}
use Rattle.crease_model.proofs.KnownSides.{sheet_directions}
use Rattle.crease_model.proofs.Sheet.with_sides.Goals as goal

pub known_sides-requires : goal.known_sides-requires
known_sides-requires c =
    ap have_directions c.as_slice.ensures.value ∙ sheet_directions c.args.corners.items c.requires
