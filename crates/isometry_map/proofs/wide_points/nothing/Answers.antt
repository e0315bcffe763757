use Rattle.std.proofs.Common.{◌^◌, lit≤}
use Rattle.surd_number.specs.Value.{wide_number_of}
use Rattle.surd_number.specs.FitsLaws.{fits_more}
use Rattle.isometry_map.proofs.Widths.{wide_difference}
use Rattle.isometry_map.proofs.Images.{nothing_by}
use Rattle.isometry_map.proofs.wide_points.nothing.Goals as goal

pub minus-requires : goal.minus-requires
minus-requires c =
    let w = wide_number_of c.args.w.now in
    let f = fits_more (2 ^ 72) (2 ^ 76) 18 w (lit≤ tt) c.requires in
    wide_difference w w f f

pub returns : goal.returns
returns c = nothing_by (wide_number_of c.minus.result) (wide_number_of c.args.w.now) c.minus.ensures
