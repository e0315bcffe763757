use Rattle.std.proofs.Common.{◌^◌, lit≤}
use Rattle.surd_number.specs.Value.{wide_number_of}
use Rattle.surd_number.specs.FitsLaws.{fits_more}
use Rattle.plane_geometry.proofs.Wides.{wide_difference, nought_fits, negative_by}
use Rattle.plane_geometry.proofs.sides.negative.Goals as goal

pub minus-requires : goal.minus-requires
minus-requires c =
    let w = wide_number_of c.args.w.now in
    let z = wide_number_of c.nothing.result in
    wide_difference z w (nought_fits z c.nothing.ensures)
    (fits_more (2 ^ 70) (2 ^ 76) 16 w (lit≤ tt) c.requires)

pub returns : goal.returns
returns c = negative_by (wide_number_of c.minus.result) (wide_number_of c.nothing.result)
    (wide_number_of c.args.w.now) c.minus.ensures c.nothing.ensures
