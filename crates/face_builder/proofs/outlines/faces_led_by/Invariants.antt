use Rattle.std.proofs.Common.{◌≡◌, ◌++◌, map, drop}
use Rattle.face_builder.specs.Faces.{led_face}
use Rattle.face_builder.specs.SideFill.{half_edges_of_each}
use Rattle.face_builder.proofs.outlines.faces_led_by.Given as goal

abbrev pub invariant-loop-leader : goal.invariant-loop-leader
invariant-loop-leader l =
    half_edges_of_each l.faces.items ++ map (led_face l.half_edges l.nexts) (drop l.leader-index l.leaders)
    ≡ map (led_face l.half_edges l.nexts) l.leaders
