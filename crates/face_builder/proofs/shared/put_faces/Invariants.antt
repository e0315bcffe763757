use Rattle.std.proofs.Common.{◌≡◌, ℕ, ◌+◌, ◌<◌, drop, length, slice_index_or}
use Rattle.face_builder.specs.declared.shared.Sides.{Sides}
use Rattle.face_builder.specs.SideFill.{sides_among, half_edges_of_each}
use Rattle.face_builder.proofs.shared.put_faces.Given as goal

abbrev pub invariant-loop-i : goal.invariant-loop-i
invariant-loop-i l = record {
  count : length l.sides.items ≡ length l.initial.sides.items;
  value : (k : ℕ) (d : Sides) → k < length l.initial.sides.items
      → sides_among (k + 1) (l.i + 1) (half_edges_of_each (drop l.i l.faces))
      (slice_index_or l.sides.items k d)
      ≡ sides_among (k + 1) 1 (half_edges_of_each l.faces) (slice_index_or l.initial.sides.items k d);
}
