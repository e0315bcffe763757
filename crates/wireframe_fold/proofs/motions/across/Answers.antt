use Rattle.isometry_map.specs.IsometryView.{motion_of}
use Rattle.wireframe_fold.specs.Folding.{mirror_in}
use Rattle.wireframe_fold.proofs.Maps.{composed_with}
use Rattle.wireframe_fold.proofs.motions.across.Goals as goal

pub returns-clause-across : goal.returns-clause-across
returns-clause-across c =
    composed_with (motion_of c.after.result) (motion_of c.args.motion.now) (motion_of c.mirror.result)
    (mirror_in c.args.crease.now)
    c.after.ensures.composition c.mirror.ensures.same
