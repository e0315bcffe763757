use Rattle.std.proofs.Common.{sym}
use Rattle.isometry_map.specs.IsometryView.{motion_of}
use Rattle.wireframe_fold.proofs.Corners.{images_more}
use Rattle.wireframe_fold.proofs.shapes.folded_points.Goals as goal

pub returns-in-None : goal.returns-in-None
returns-in-None c = (
  c.point-item.result,
  (c.loop-point.point-index, c.loop-point-test.true, sym c.point-item.is),
  c.in-None.ensures,
)

pub loop-point-preserved : goal.loop-point-preserved
loop-point-preserved c =
    images_more (motion_of c.args.motion.now) c.args.points.now c.loop-point.point-index c.point-item.result
    c.in-Some.image
    c.loop-point.folded.items c.push.new.self.items c.loop-point-test.true c.point-item.is
    c.loop-point.invariant c.in-Some.ensures
    c.in_ok-push-in-Some.ensures.items
