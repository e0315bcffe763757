use Rattle.plane_geometry.specs.DirView.{dir_number}
use Rattle.isometry_map.specs.IsometryView.{motion_of}
use Rattle.wireframe_fold.proofs.Maps.{mirror_is}
use Rattle.wireframe_fold.proofs.motions.mirror.Goals as goal

pub returns-clause-mirror : goal.returns-clause-mirror
returns-clause-mirror c = (c.through.result, c.reflection.ensures.mirror)

pub returns-clause-same : goal.returns-clause-same
returns-clause-same c =
    mirror_is c.through.result c.args.crease.now c.from.result.now (dir_number c.dir.result)
    (motion_of c.reflection.result)
    c.from.ensures.value c.dir.ensures.value c.through.ensures.number c.through.ensures.offset
    c.reflection.ensures.at
