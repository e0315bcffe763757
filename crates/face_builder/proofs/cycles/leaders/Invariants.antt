use Rattle.std.proofs.Common.{◌≡◌, ◌++◌, drop, length}
use Rattle.face_builder.specs.Cycle.{leaders_from}
use Rattle.face_builder.proofs.Marks.{AreMarked}
use Rattle.face_builder.proofs.cycles.leaders.Given as goal

abbrev pub invariant-loop-i : goal.invariant-loop-i
invariant-loop-i l = record {
  count : length l.marks.items ≡ length l.nexts;
  marked : AreMarked l.nexts l.i l.marks.items;
  found : l.leaders.items ++ leaders_from l.nexts l.i (drop l.i l.nexts) ≡ leaders_from l.nexts 0 l.nexts;
}
