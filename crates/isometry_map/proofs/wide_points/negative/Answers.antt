use Rattle.std.proofs.Common.{◌^◌, lit≤}
use Rattle.surd_number.specs.Value.{wide_number_of}
use Rattle.surd_number.specs.FitsLaws.{fits_more}
use Rattle.isometry_map.proofs.Widths.{wide_difference, nought_fits}
use Rattle.isometry_map.proofs.Images.{negative_by}
use Rattle.isometry_map.proofs.wide_points.negative.Goals as goal

pub minus-requires : goal.minus-requires
minus-requires c =
    let w = wide_number_of c.args.w.now in
    let z = wide_number_of c.nothing.result in
    wide_difference z w (nought_fits (2 ^ 76) z c.nothing.ensures)
    (fits_more (2 ^ 72) (2 ^ 76) 18 w (lit≤ tt) c.requires)

pub returns : goal.returns
returns c = negative_by (wide_number_of c.minus.result) (wide_number_of c.nothing.result)
    (wide_number_of c.args.w.now) c.minus.ensures c.nothing.ensures
