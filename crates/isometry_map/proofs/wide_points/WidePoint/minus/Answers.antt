use Rattle.std.proofs.Common.{◌^◌, lit≤}
use Rattle.surd_number.specs.Value.{wide_number_of}
use Rattle.surd_number.specs.FitsLaws.{fits_more}
use Rattle.isometry_map.proofs.Widths.{wide_difference}
use Rattle.isometry_map.proofs.wide_points.WidePoint.minus.Goals as goal

pub minus-requires : goal.minus-requires
minus-requires c =
    let x = wide_number_of c.args.self.now.x in
    let y = wide_number_of c.args.p.now.x in
    wide_difference x y (fits_more (2 ^ 72) (2 ^ 76) 18 x (lit≤ tt) c.requires.few.0)
    (fits_more (2 ^ 72) (2 ^ 76) 18 y (lit≤ tt) c.requires.few_other.0)

pub minus-requires-2 : goal.minus-requires-2
minus-requires-2 c =
    let x = wide_number_of c.args.self.now.y in
    let y = wide_number_of c.args.p.now.y in
    wide_difference x y (fits_more (2 ^ 72) (2 ^ 76) 18 x (lit≤ tt) c.requires.few.1)
    (fits_more (2 ^ 72) (2 ^ 76) 18 y (lit≤ tt) c.requires.few_other.1)
