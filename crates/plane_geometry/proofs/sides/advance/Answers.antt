use Rattle.std.proofs.Common.{◌+◌, ◌*◌, ◌^◌, ◌∙◌, lit≤}
use Rattle.surd_number.specs.SignLaws.{sign_of-same}
use Rattle.surd_number.specs.Value.{wide_number_of}
use Rattle.surd_number.specs.FitsLaws.{fits_more}
use Rattle.plane_geometry.specs.Position.{position_of, dot_of, vector_of}
use Rattle.plane_geometry.specs.Direction.{direction_vector}
use Rattle.plane_geometry.specs.DirView.{dir_number}
use Rattle.plane_geometry.proofs.Wides.{sgn_fits, dot_fits, dot_from_differences}
use Rattle.plane_geometry.proofs.sides.advance.Goals as goal

pub dot-requires-clause-x_fits : goal.dot-requires-clause-x_fits
dot-requires-clause-x_fits c =
    fits_more (2 ^ 53) (2 ^ 66) 16 (wide_number_of c.difference.result) (lit≤ tt) c.difference.ensures.fits

pub dot-requires-clause-y_fits : goal.dot-requires-clause-y_fits
dot-requires-clause-y_fits c =
    fits_more (2 ^ 53) (2 ^ 66) 16 (wide_number_of c.difference-2.result)
    (lit≤ tt) c.difference-2.ensures.fits

pub sgn-requires : goal.sgn-requires
sgn-requires c =
    let r = wide_number_of c.dot.result in
    sgn_fits (3 * 2 ^ 53 + 3 * 2 ^ 53) r c.dot.result.stored.0 (lit≤ tt)
    (dot_fits (dir_number c.args.dir) (2 ^ 53) r (wide_number_of c.difference.result)
    (wide_number_of c.difference-2.result) c.dot.ensures c.difference.ensures.fits
    c.difference-2.ensures.fits)

pub returns : goal.returns
returns c =
    let d = direction_vector (dir_number c.args.dir) in
    let q = position_of c.args.q.now in
    let p = position_of c.args.p.now in
    let r = wide_number_of c.dot.result in
    c.sgn.ensures
    ∙ sign_of-same r (dot_of d (vector_of p q))
    (dot_from_differences r d p q (wide_number_of c.difference.result)
    (wide_number_of c.difference-2.result) c.difference.ensures.value c.difference-2.ensures.value
    c.dot.ensures)
