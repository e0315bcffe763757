use Rattle.std.proofs.Common.{List, ap, ◌∙◌}
use Rattle.std.specs.List.{list_any}
use Rattle.plane_geometry.specs.declared.Point.{Point}
use Rattle.plane_geometry.specs.SegmentView.{stretch_of}
use Rattle.crease_model.specs.declared.sides.KnownSide.{KnownSide}
use Rattle.crease_model.specs.Sheet.{is_within_side}
use Rattle.crease_model.specs.KnownSide.{known_holds}
use Rattle.crease_model.proofs.KnownSides.{within_is}
use Rattle.crease_model.proofs.Sheet.on_border.Goals as goal

pub returns : goal.returns
returns c =
    let s = stretch_of c.args.s.now in
    c.within_side.ensures ∙ ap (λ (sides : List KnownSide). list_any (known_holds s) sides) c.as_slice.ensures.value
    ∙ within_is c.self.inside.corners.items c.self.inside.sides.items c.self.invariant.beside s
    ∙ ap (λ (corners : List Point). is_within_side corners s) c.self.view_is
