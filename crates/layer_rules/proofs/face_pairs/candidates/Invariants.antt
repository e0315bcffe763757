use Rattle.std.proofs.Common.{◌+◌, ◌*◌, ◌≤◌, length}
use Rattle.layer_rules.specs.Candidates.{AreBefore}
use Rattle.layer_rules.proofs.face_pairs.candidates.Given as goal

abbrev pub invariant-loop-i : goal.invariant-loop-i
invariant-loop-i l = record {
  before : AreBefore l.faces l.i l.candidates.items;
  bounded : l.i ≤ 65536;
  few : length l.candidates.items + 65536 ≤ 65536 * l.i;
}
