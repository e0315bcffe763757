use Rattle.std.proofs.Common.{sym, subst, arith}
use Rattle.surd_number.specs.declared.Wide.{Wide}
use Rattle.surd_number.specs.Exact.{IsWideOf}
use Rattle.surd_number.specs.Value.{wide_number_of}
use Rattle.plane_geometry.specs.Position.{position_of, cross_of}
use Rattle.plane_geometry.specs.Direction.{direction_vector}
use Rattle.plane_geometry.specs.DirView.{dir_number}
use Rattle.plane_geometry.specs.LineView.{line_number}
use Rattle.open_region.proofs.Sizes.{wide_scaled}
use Rattle.open_region.proofs.Edges.{through_turned}
use Rattle.open_region.proofs.edge.Edge.through.Goals as goal

pub times_unit-requires-clause-fits : goal.times_unit-requires-clause-fits
times_unit-requires-clause-fits c =
    wide_scaled (wide_number_of c.offset-offset.result) c.offset-offset.ensures.fits

pub returns : goal.returns
returns c =
    let k = line_number c.through.result in
    let p = position_of c.args.p.now in
    through_turned (dir_number c.args.d) k (wide_number_of c.offset-offset.result) p
    (omega (arith, c.args.d.in_range)) c.through.ensures.number
    (subst (λ (w : Wide). IsWideOf w (cross_of (direction_vector k) p))
    (sym c.offset-offset.ensures.value) c.through.ensures.offset)
