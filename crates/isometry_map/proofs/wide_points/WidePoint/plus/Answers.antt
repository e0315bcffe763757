use Rattle.std.proofs.Common.{◌^◌, lit≤}
use Rattle.surd_number.specs.Value.{wide_number_of}
use Rattle.surd_number.specs.FitsLaws.{fits_more}
use Rattle.isometry_map.proofs.Widths.{wide_sum}
use Rattle.isometry_map.proofs.wide_points.WidePoint.plus.Goals as goal

pub plus-requires : goal.plus-requires
plus-requires c =
    let x = wide_number_of c.args.self.now.x in
    let y = wide_number_of c.args.v.now.x in
    wide_sum x y (fits_more (2 ^ 72) (2 ^ 76) 18 x (lit≤ tt) c.requires.few.0)
    (fits_more (2 ^ 72) (2 ^ 76) 18 y (lit≤ tt) c.requires.few_other.0)

pub plus-requires-2 : goal.plus-requires-2
plus-requires-2 c =
    let x = wide_number_of c.args.self.now.y in
    let y = wide_number_of c.args.v.now.y in
    wide_sum x y (fits_more (2 ^ 72) (2 ^ 76) 18 x (lit≤ tt) c.requires.few.1)
    (fits_more (2 ^ 72) (2 ^ 76) 18 y (lit≤ tt) c.requires.few_other.1)
