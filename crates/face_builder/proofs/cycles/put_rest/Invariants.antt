use Rattle.std.proofs.Common.{◌≡◌, ℕ, ◌<◌, Bool, ◌||◌, nat_eq, drop, length, slice_index_or}
use Rattle.std.specs.List.{list_any}
use Rattle.face_builder.specs.Cycle.{next_of, rest_from}
use Rattle.face_builder.proofs.cycles.put_rest.Given as goal

abbrev pub invariant-loop-step : goal.invariant-loop-step
invariant-loop-step l = record {
  count : length l.marks.items ≡ length l.initial.marks.items;
  value : (k : ℕ) (d : Bool) → k < length l.initial.marks.items
      → (slice_index_or l.marks.items k d
      || list_any (nat_eq k) (rest_from l.nexts l.first (drop l.step-index l.nexts) l.i))
      ≡ (slice_index_or l.initial.marks.items k d
      || list_any (nat_eq k) (rest_from l.nexts l.first l.nexts (next_of l.nexts l.first)));
}
