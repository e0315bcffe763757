use Rattle.std.proofs.Common.{◌^◌, lit≤}
use Rattle.isometry_map.specs.LinearView.{linear_number}
use Rattle.isometry_map.specs.IsometryView.{motion_of}
use Rattle.isometry_map.specs.Motion.{Motion}
use Rattle.isometry_map.specs.WidePointView.{wide_position}
use Rattle.isometry_map.proofs.Widths.{point_more}
use Rattle.isometry_map.proofs.Mirrors.{composes, reflection_fits, term_fits, shift_grows, image_shifted}
use Rattle.isometry_map.proofs.isometries.Isometry.after.Goals as goal

pub image-requires : goal.image-requires
image-requires c = reflection_fits (motion_of c.args.first.now) c.requires.mirror

pub plus-requires-clause-few : goal.plus-requires-clause-few
plus-requires-clause-few c =
    let u = wide_position c.image.result in
    point_more (2 ^ 57) (2 ^ 72) 18 u (lit≤ tt)
    (term_fits (linear_number c.args.self.now.linear) u
    (motion_of c.args.first.now) c.requires.mirror c.image.ensures)

pub returns-clause-composition : goal.returns-clause-composition
returns-clause-composition c =
    let s = motion_of c.args.self.now in
    let r : Motion = record { linear = linear_number c.after.result; shift = wide_position c.plus.result } in
    composes r s (motion_of c.args.first.now) c.after.ensures.product
    (image_shifted s (wide_position c.plus.result) (wide_position c.image.result)
    (motion_of c.args.first.now).shift c.plus.ensures c.image.ensures)

pub returns-clause-fits : goal.returns-clause-fits
returns-clause-fits c =
    let u = wide_position c.image.result in
    λ most few. shift_grows most (wide_position c.plus.result) u
    (motion_of c.args.self.now).shift c.plus.ensures
    (term_fits (linear_number c.args.self.now.linear) u
    (motion_of c.args.first.now) c.requires.mirror c.image.ensures) few
