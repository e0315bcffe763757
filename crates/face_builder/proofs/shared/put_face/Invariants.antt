use Rattle.std.proofs.Common.{◌≡◌, ℕ, ◌+◌, ◌<◌, drop, length, slice_index_or}
use Rattle.face_builder.specs.declared.shared.Sides.{Sides}
use Rattle.face_builder.specs.SideFill.{sides_along}
use Rattle.face_builder.proofs.shared.put_face.Given as goal

abbrev pub invariant-loop-half_edge : goal.invariant-loop-half_edge
invariant-loop-half_edge l = record {
  count : length l.sides.items ≡ length l.initial.sides.items;
  value : (k : ℕ) (d : Sides) → k < length l.initial.sides.items
      → sides_along (k + 1) l.face (drop l.half_edge-index l.half_edges) (slice_index_or l.sides.items k d)
      ≡ sides_along (k + 1) l.face l.half_edges (slice_index_or l.initial.sides.items k d);
}
