use Rattle.std.proofs.Common.{◌+◌, ◌*◌, ◌^◌, ◌∙◌, lit≤}
use Rattle.surd_number.specs.SignLaws.{sign_of-same}
use Rattle.surd_number.specs.Value.{wide_number_of}
use Rattle.surd_number.specs.FitsLaws.{fits_more}
use Rattle.plane_geometry.specs.Position.{position_of, cross_of, vector_of}
use Rattle.plane_geometry.specs.Direction.{direction_vector}
use Rattle.plane_geometry.specs.DirView.{dir_number}
use Rattle.plane_geometry.proofs.Wides.{sgn_fits, cross_fits, cross_from_differences}
use Rattle.plane_geometry.proofs.sides.side_from.Goals as goal

pub cross-requires-clause-x_fits : goal.cross-requires-clause-x_fits
cross-requires-clause-x_fits c =
    fits_more (2 ^ 53) (2 ^ 66) 16 (wide_number_of c.difference.result) (lit≤ tt) c.difference.ensures.fits

pub cross-requires-clause-y_fits : goal.cross-requires-clause-y_fits
cross-requires-clause-y_fits c =
    fits_more (2 ^ 53) (2 ^ 66) 16 (wide_number_of c.difference-2.result)
    (lit≤ tt) c.difference-2.ensures.fits

pub sgn-requires : goal.sgn-requires
sgn-requires c =
    let r = wide_number_of c.cross.result in
    sgn_fits (3 * 2 ^ 53 + 3 * 2 ^ 53) r c.cross.result.stored.0 (lit≤ tt)
    (cross_fits (dir_number c.args.dir) (2 ^ 53) r (wide_number_of c.difference.result)
    (wide_number_of c.difference-2.result) c.cross.ensures c.difference.ensures.fits
    c.difference-2.ensures.fits)

pub returns : goal.returns
returns c =
    let d = direction_vector (dir_number c.args.dir) in
    let q = position_of c.args.q.now in
    let p = position_of c.args.p.now in
    let r = wide_number_of c.cross.result in
    c.sgn.ensures
    ∙ sign_of-same r (cross_of d (vector_of q p))
    (cross_from_differences r d q p (wide_number_of c.difference.result)
    (wide_number_of c.difference-2.result) c.difference.ensures.value c.difference-2.ensures.value
    c.cross.ensures)
