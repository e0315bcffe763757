use Rattle.std.proofs.Common.{take}
use Rattle.isometry_map.specs.IsometryView.{motion_of}
use Rattle.isometry_map.specs.Folded.{AreImages}
use Rattle.wireframe_fold.proofs.shapes.folded_points.Given as goal

abbrev pub invariant-loop-point : goal.invariant-loop-point
invariant-loop-point l = AreImages (motion_of l.motion) (take l.point-index l.points) l.folded.items
