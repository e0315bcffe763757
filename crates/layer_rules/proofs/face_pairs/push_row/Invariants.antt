use Rattle.std.proofs.Common.{◌+◌, ◌≤◌, length}
use Rattle.layer_rules.specs.Candidates.{ArePreceding}
use Rattle.layer_rules.proofs.face_pairs.push_row.Given as goal

abbrev pub invariant-loop-j : goal.invariant-loop-j
invariant-loop-j l = record {
  before : ArePreceding l.faces (record { i = l.i; j = l.j + 1 }) l.candidates.items;
  few : length l.candidates.items ≤ length l.initial.candidates.items + l.j;
}
