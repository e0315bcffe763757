use Rattle.std.proofs.Common.{◌≡◌, drop}
use Rattle.plane_geometry.specs.DirView.{dir_number}
use Rattle.face_builder.specs.Fan.{nearest_from}
use Rattle.face_builder.proofs.fans.nearest.Given as goal

abbrev pub invariant-loop-exit : goal.invariant-loop-exit
invariant-loop-exit l =
    nearest_from (dir_number l.arrival) l.best (drop l.exit-index l.others)
    ≡ nearest_from (dir_number l.arrival) l.initial.best l.others
