use Rattle.std.proofs.Common.{◌^◌, lit≤}
use Rattle.isometry_map.specs.MotionLaws.{shift_more}
use Rattle.isometry_map.specs.IsometryView.{motion_of}
use Rattle.wireframe_fold.specs.Folding.{motions_of}
use Rattle.wireframe_fold.proofs.Maps.{closed_says}
use Rattle.wireframe_fold.proofs.motions.is_closed.Goals as goal

pub across-there-requires : goal.across-there-requires
across-there-requires c =
    shift_more (2 ^ 65) (2 ^ 72) (motion_of c.face_motion.result.now) (lit≤ tt)
    (c.face_motion.ensures.within (2 ^ 65) c.requires.within)

pub returns : goal.returns
returns c =
    closed_says (motions_of c.args.motions.now) c.args.shared.now (motion_of c.face_motion-2.result.now)
    (motion_of c.across-there.result)
    (motion_of c.face_motion.result.now) c.is_same.result c.face_motion-2.ensures.value
    c.face_motion.ensures.value c.across-there.ensures.across c.is_same.ensures
