use Rattle.std.proofs.Common.{◌≡◌, true, false, subst, ◌<◌, length, get_or, rules, sym, ap, ap₂, ◌∙◌, arith}
use Rattle.std.specs.Ordering.{is_eq}
use Rattle.std.proofs.lemmas.List.Sorted.{IsPartitionPoint-from_clause}
use Rattle.plane_geometry.specs.Order.{compare_segments, is_before}
use Rattle.crease_store.proofs.InOrderLaws.{IsPlaceFor, ascending_parts, taken_at, free_at}
use Rattle.crease_store.proofs.placing.place_for.Goals as goal
use Rattle.crease_store.proofs.placing.place_for.Goals.{else-i-items-via-then-i-items+else-is_eq, else-i-items-via-else-i-items}

pub returns-then-is_eq-clause-value : goal.returns-then-is_eq-clause-value
returns-then-is_eq-clause-value g c =
    let segment_of = g.T.OnSegment.segment_of in
    let xs = c.args.items.now in
    let q = c.args.item.now in
    let i = c.partition_point-i.result in
    let parts : IsPlaceFor segment_of xs q i =
    IsPartitionPoint-from_clause (λ x. is_before (segment_of x) (segment_of q)) xs i c.partition_point-i.ensures.partitioned
    (ascending_parts segment_of (segment_of q) xs c.requires) (λ a r q k. search rules) in
    taken_at segment_of xs q c.index-items-i.result i c.if-i-items.true parts
    (subst (λ x. is_eq (compare_segments (segment_of x) (segment_of q)) ≡ true) c.index-items-i.is
    (sym (c.is_eq.ensures ∙ ap is_eq (c.cmp.ensures ∙ ap₂ compare_segments c.segment.ensures c.segment-then-i-items.ensures)) ∙ c.if-is_eq.true))

pub returns-else-i-items-clause-value : goal.returns-else-i-items-clause-value
returns-else-i-items-clause-value g c =
    let segment_of = g.T.OnSegment.segment_of in
    let xs = c.args.items.now in
    let q = c.args.item.now in
    let i = c.partition_point-i.result in
    let parts : IsPlaceFor segment_of xs q i =
    IsPartitionPoint-from_clause (λ x. is_before (segment_of x) (segment_of q)) xs i c.partition_point-i.ensures.partitioned
    (ascending_parts segment_of (segment_of q) xs c.requires) (λ a r q k. search rules) in
    let free : i < length xs → (d : g.row.T.Denot) × (is_eq (compare_segments (segment_of (get_or xs i d)) (segment_of q)) ≡ false) =
    λ less. elim c.else-i-items.branch [
      | else-i-items-via-then-i-items+else-is_eq w ↦ (
        w.index-items-i.result,
        subst (λ x. is_eq (compare_segments (segment_of x) (segment_of q)) ≡ false) w.index-items-i.is
            (sym (w.is_eq.ensures ∙ ap is_eq (w.cmp.ensures ∙ ap₂ compare_segments w.segment.ensures w.segment-then-i-items.ensures)) ∙ w.if-is_eq.false),
      )
      | else-i-items-via-else-i-items w ↦ absurd (omega (arith, less, w.if-i-items.false))
    ] in
    free_at segment_of xs q i c.partition_point-i.ensures.bound parts free
