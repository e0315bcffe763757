use Rattle.std.proofs.Common.{◌≡◌, ◌*◌, ◌^◌, List, length, drop}
use Rattle.isometry_map.specs.Motion.{Motion}
use Rattle.wireframe_fold.specs.Folding.{motions_of, AreWithin}
use Rattle.wireframe_fold.proofs.Walked.{AreWalked, AreWalkedFromStart}
use Rattle.wireframe_fold.proofs.motions.along_walk.Given as goal

abbrev pub invariant-loop-step : goal.invariant-loop-step
invariant-loop-step l =
    (length l.motions.items ≡ length l.faces.faces)
    × AreWithin (l.step-index * 2 ^ 57) l.motions.items
    × ((us : List Motion)
    → AreWalked l.faces.shared (motions_of l.motions.items) (drop l.step-index l.faces.walk) us
    → AreWalkedFromStart l.faces us)
