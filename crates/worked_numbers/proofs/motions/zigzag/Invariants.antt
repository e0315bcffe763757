use Rattle.std.proofs.Common.{◌*◌, ◌^◌}
use Rattle.isometry_map.specs.IsometryView.{motion_of}
use Rattle.isometry_map.specs.Motion.{IsShiftWithin}
use Rattle.worked_numbers.proofs.motions.zigzag.Given as goal

abbrev pub invariant-loop-i : goal.invariant-loop-i
invariant-loop-i l = IsShiftWithin (l.i * 2 ^ 57) (motion_of l.chain)
