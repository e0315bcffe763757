use Rattle.std.proofs.Common.{◌+◌, ◌*◌, ◌^◌, ◌∙◌, lit≤}
use Rattle.surd_number.specs.Number.{difference_of}
use Rattle.surd_number.specs.Value.{wide_number_of}
use Rattle.surd_number.specs.FitsLaws.{fits_more, fits_same, fits_difference}
use Rattle.plane_geometry.specs.Position.{position_of}
use Rattle.plane_geometry.specs.DirView.{dir_number}
use Rattle.plane_geometry.proofs.Wides.{wide_difference, sgn_fits}
use Rattle.plane_geometry.proofs.Offsets.{point_cross_fits, offset_fits, side_by}
use Rattle.plane_geometry.proofs.lines.side.Goals as goal

pub minus-requires : goal.minus-requires
minus-requires c =
    let z = wide_number_of c.cross_at.result in
    let o = wide_number_of c.args.line.now.offset in
    wide_difference z o
    (fits_more (3 * 2 ^ 52 + 3 * 2 ^ 52) (2 ^ 76) 16 z (lit≤ tt)
    (point_cross_fits (dir_number c.dir.result) c.args.p.now z c.cross_at.ensures))
    (fits_more (3 * 2 ^ 52 + 3 * 2 ^ 52) (2 ^ 76) 16 o (lit≤ tt) (offset_fits c.args.line.now))

pub sgn-requires : goal.sgn-requires
sgn-requires c =
    let z = wide_number_of c.cross_at.result in
    let o = wide_number_of c.args.line.now.offset in
    let r = wide_number_of c.minus.result in
    let most = 3 * 2 ^ 52 + 3 * 2 ^ 52 in
    sgn_fits (most + most) r c.minus.result.stored.0 (lit≤ tt)
    (fits_same (most + most) 16 (difference_of z o) r c.minus.ensures
    (fits_difference most most 16 z o
    (point_cross_fits (dir_number c.dir.result) c.args.p.now z c.cross_at.ensures)
    (offset_fits c.args.line.now)))

pub returns : goal.returns
returns c =
    c.sgn.ensures
    ∙ side_by c.args.line.now (position_of c.args.p.now) (dir_number c.dir.result)
    (wide_number_of c.minus.result)
    (wide_number_of c.cross_at.result) c.dir.ensures c.cross_at.ensures c.minus.ensures
