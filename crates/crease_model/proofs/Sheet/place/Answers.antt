use Rattle.std.proofs.Common.{List, ap, ◌∙◌}
use Rattle.plane_geometry.specs.declared.Point.{Point}
use Rattle.plane_geometry.specs.Position.{position_of}
use Rattle.crease_model.specs.declared.sides.KnownSide.{KnownSide}
use Rattle.crease_model.specs.Sheet.{place_of}
use Rattle.crease_model.specs.KnownSide.{place_to}
use Rattle.crease_model.proofs.KnownSides.{place_is}
use Rattle.crease_model.proofs.Sheet.place.Goals as goal

pub returns : goal.returns
returns c =
    let p = position_of c.args.p.now in
    c.place_among.ensures ∙ ap (λ (sides : List KnownSide). place_to sides p) c.as_slice.ensures.value
    ∙ place_is c.self.inside.corners.items c.self.inside.sides.items c.self.invariant.beside p
    ∙ ap (λ (corners : List Point). place_of corners p) c.self.view_is
