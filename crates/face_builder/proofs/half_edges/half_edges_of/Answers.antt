use Rattle.std.proofs.Common.{◌≡◌, ◌++◌, ◌<◌, List, length, sym, subst, ap, ap₂, ◌∙◌}
use Rattle.face_builder.specs.declared.half_edges.HalfEdge.{HalfEdge}
use Rattle.face_builder.specs.HalfEdge.{both_ways, border_parts, all_half_edges, compare_half_edges, half_edges_of}
use Rattle.face_builder.specs.Sorted.{sorted_list}
use Rattle.face_builder.proofs.Ordered.{sorted_half_edges}
use Rattle.face_builder.proofs.Lengths.{few_half_edges}
use Rattle.face_builder.proofs.half_edges.half_edges_of.Goals as goal

pub returns-clause-value : goal.returns-clause-value
unfolding half_edges_of
returns-clause-value c =
    let whole : c.push_border.new.half_edges.items ≡ all_half_edges c.args.pattern.now =
    c.in_ok-push_border.ensures
    ∙ ap₂ ◌++◌ (c.in_ok-push_both_ways.ensures
    ∙ ap₂ (λ front pieces. front
    ++ both_ways 1 pieces) c.in_ok-half_edges.ensures.items c.pieces-pieces.ensures.value)
    (ap₂ border_parts (c.corners.ensures.value ∙ c.sheet.ensures.value) c.pieces-pieces.ensures.value)
    in
    sorted_half_edges _ _ c.sort_unstable.ensures.permutation c.sort_unstable.ensures.sorted
    ∙ ap (sorted_list compare_half_edges) whole

pub returns-clause-bound : goal.returns-clause-bound
returns-clause-bound c =
    subst (λ (hs : List HalfEdge). length hs < 4294967295) (sym (returns-clause-value c))
    (few_half_edges c.args.pattern.now c.sheet.ensures.rules c.pieces-pieces.ensures.rules)
