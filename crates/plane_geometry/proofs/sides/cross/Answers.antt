use Rattle.std.proofs.Common.{◌*◌, ◌^◌, lit≤}
use Rattle.surd_number.specs.Value.{wide_number_of}
use Rattle.surd_number.specs.FitsLaws.{fits_more}
use Rattle.plane_geometry.specs.Direction.{direction_vector}
use Rattle.plane_geometry.specs.DirView.{dir_number}
use Rattle.plane_geometry.specs.Part.{part_number}
use Rattle.plane_geometry.proofs.Wides.{wide_difference, part_fits, cross_by}
use Rattle.plane_geometry.proofs.sides.cross.Goals as goal

pub minus-requires : goal.minus-requires
minus-requires c =
    let m = wide_number_of c.scaled.result in
    let n = wide_number_of c.scaled-2.result in
    wide_difference m n
    (fits_more (3 * 2 ^ 66) (2 ^ 76) 16 m (lit≤ tt)
    (part_fits c.parts-u.result.0 (2 ^ 66) m
    (wide_number_of c.args.y.now) c.scaled.ensures c.requires.y_fits))
    (fits_more (3 * 2 ^ 66) (2 ^ 76) 16 n (lit≤ tt)
    (part_fits c.parts-u.result.1 (2 ^ 66) n
    (wide_number_of c.args.x.now) c.scaled-2.ensures c.requires.x_fits))

pub returns : goal.returns
returns c =
    cross_by (wide_number_of c.minus.result) (wide_number_of c.scaled.result)
    (wide_number_of c.scaled-2.result) (direction_vector (dir_number c.args.dir))
    (wide_number_of c.args.x.now) (wide_number_of c.args.y.now) (part_number c.parts-u.result.0)
    (part_number c.parts-u.result.1) c.parts-u.ensures.x c.parts-u.ensures.y
    c.scaled.ensures c.scaled-2.ensures c.minus.ensures
