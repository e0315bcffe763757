use Rattle.isometry_map.specs.IsometryView.{motion_of}
use Rattle.isometry_map.specs.WidePointView.{wide_position}
use Rattle.wireframe_fold.proofs.Corners.{point_there, no_point_by_x, no_point_by_y}
use Rattle.wireframe_fold.proofs.shapes.folded_point.Goals as goal

pub returns-in-Ok-Ok : goal.returns-in-Ok-Ok
returns-in-Ok-Ok c =
    point_there (motion_of c.args.motion.now) c.args.p.now
    (wide_position c.apply-image.result) c.apply-image.ensures
    c.narrow.result c.narrow-2.result c.in-Ok-Ok.x c.in-Ok-Ok.y c.narrow.ensures c.narrow-2.ensures
    c.in-Ok-Ok.is-0 c.in-Ok-Ok.is-1

pub returns-in_default-Err : goal.returns-in_default-Err
returns-in_default-Err c =
    no_point_by_y (motion_of c.args.motion.now) c.args.p.now
    (wide_position c.apply-image.result) c.apply-image.ensures
    c.narrow-2.result c.in_default-Err.field-0-1 c.narrow-2.ensures c.in_default-Err.is-1

pub returns-in-Err-default : goal.returns-in-Err-default
returns-in-Err-default c =
    no_point_by_x (motion_of c.args.motion.now) c.args.p.now
    (wide_position c.apply-image.result) c.apply-image.ensures
    c.narrow.result c.in-Err-default.field-0-0 c.narrow.ensures c.in-Err-default.is-0
