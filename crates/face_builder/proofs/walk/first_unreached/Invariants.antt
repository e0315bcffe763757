use Rattle.std.proofs.Common.{◌≡◌, ◌+◌, ◌-◌}
use Rattle.face_builder.specs.Walk.{first_unreached}
use Rattle.face_builder.proofs.walk.first_unreached.Given as goal

abbrev pub invariant-loop-i : goal.invariant-loop-i
invariant-loop-i l = first_unreached l.steps (l.i + 1) (l.faces - l.i) ≡ first_unreached l.steps 1 l.faces
