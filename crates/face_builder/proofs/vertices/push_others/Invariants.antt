use Rattle.std.proofs.Common.{◌≡◌, ◌++◌, drop}
use Rattle.face_builder.specs.Sorted.{others_after}
use Rattle.plane_geometry.specs.Position.{is_same_point}
use Rattle.face_builder.proofs.vertices.push_others.Given as goal

abbrev pub invariant-loop-point : goal.invariant-loop-point
invariant-loop-point l =
    l.kept.items ++ others_after is_same_point l.last (drop l.point-index l.rest) ≡ l.initial.kept.items
    ++ others_after is_same_point l.initial.last l.rest
