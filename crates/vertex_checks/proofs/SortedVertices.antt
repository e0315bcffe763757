-- The vertices are the inner ends of the pieces, sorted and each once.
use Rattle.std.proofs.Common.{◌≡◌, true, inl, inr, List, [], ◌∷◌, sym, ap, subst, ◌∙◌}
use Rattle.std.specs.List.Retain.{IsFiltered, DiffersFromLast}
use Rattle.std.specs.List.Sorted.{IsSorted, IsPermutation}
use Rattle.std.proofs.lemmas.Bool.{cond_both, cond-true}
use Rattle.plane_geometry.specs.declared.Point.{Point}
use Rattle.plane_geometry.specs.Position.{position_of, compare_points}
use Rattle.plane_geometry.specs.SegmentView.{lesser_end, greater_end}
use Rattle.crease_model.specs.declared.Piece.{Piece}
use Rattle.crease_model.specs.Sheet.{place_of}
use Rattle.crease_model.specs.View.{PatternView}
use Rattle.line_split.specs.MemberLaws.{Member, member, contained, member_left, member_right, member_either}
use Rattle.line_split.specs.SortedLaws.{sorted_once}
use Rattle.line_split.specs.Points.{equal_points}
use Rattle.vertex_checks.specs.Vertices.{is_inside, inner_point, inner_ends, inner_ends_of, vertices_of}
use Rattle.crease_model.specs.Rules.{IsEndOf}
use Rattle.vertex_checks.proofs.SortedLists.{member_flat, flat_member}
use Rattle.vertex_checks.proofs.VertexLaws.{inside_is, vertices_are_inner_ends}

-- ---- the inner ends

module _ (corners : List Point) where
  point_inner : (v z : Point) → Member (inner_point corners v) z
      → (v ≡ z) × (is_inside (place_of corners (position_of z)) ≡ true)
  point_inner v z =
      cond_both (is_inside (place_of corners (position_of v))) (v ∷ []) []
      (λ ps. Member ps z → (v ≡ z) × (is_inside (place_of corners (position_of z)) ≡ true))
      (λ e m. elim m [
        | inl f ↦ (
          f,
          ap (λ (t : Point). is_inside (place_of corners (position_of t))) (sym f)
              ∙ e,
        )
        | inr n ↦ absurd n
      ])
      (λ e m. absurd m)

  inner_there : (v z : Point) → v ≡ z → is_inside (place_of corners (position_of z)) ≡ true
      → Member (inner_point corners v) z
  inner_there v z same inside =
      let e = ap (λ (t : Point). is_inside (place_of corners (position_of t))) same ∙ inside in
      subst (λ ps. Member ps z) (sym (cond-true (is_inside (place_of corners (position_of v))) (v ∷ []) [] e))
      (inl same)

  ends_inner : (p : Piece) (z : Point) → Member (inner_ends corners p) z
      → IsEndOf p z × (is_inside (place_of corners (position_of z)) ≡ true)
  ends_inner p z m =
      elim (member_either (inner_point corners (lesser_end p.segment))
      (inner_point corners (greater_end p.segment)) z m) [
        | inl n ↦ (let h = point_inner (lesser_end p.segment) z n in (inl h.0, h.1))
        | inr n ↦ (let h = point_inner (greater_end p.segment) z n in (inr h.0, h.1))
      ]

  ends_there : (p : Piece) (z : Point) → IsEndOf p z → is_inside (place_of corners (position_of z)) ≡ true
      → Member (inner_ends corners p) z
  ends_there p z (inl e) inside =
      member_left (inner_point corners (lesser_end p.segment)) (inner_point corners (greater_end p.segment)) z
      (inner_there (lesser_end p.segment) z e inside)
  ends_there p z (inr e) inside =
      member_right (inner_point corners (lesser_end p.segment))
      (inner_point corners (greater_end p.segment)) z (inner_there (greater_end p.segment) z e inside)

module _ (pattern : PatternView) (ends : List Point) (ends_are : ends ≡ inner_ends_of pattern) where
  to_vertex : (z : Point) → Member ends z → Member (vertices_of pattern) z
  to_vertex z m =
      let h = flat_member (inner_ends pattern.corners) pattern.pieces z (subst (λ vs. Member vs z) ends_are m) in
      let g = ends_inner pattern.corners h.0 z h.2 in
      member (vertices_of pattern) z (((vertices_are_inner_ends pattern).1 z).1
      (record { inside = inside_is _ g.1; ends = (h.0, contained pattern.pieces h.0 h.1, g.0) }))

  from_vertex : (z : Point) → Member (vertices_of pattern) z → Member ends z
  from_vertex z m =
      let h = ((vertices_are_inner_ends pattern).1 z).0 (contained (vertices_of pattern) z m) in
      let p = h.ends.0 in
      let there =
      member_flat (inner_ends pattern.corners) pattern.pieces p z (member pattern.pieces p h.ends.1)
      (ends_there pattern.corners p z h.ends.2 (ap is_inside h.inside)) in
      subst (λ vs. Member vs z) (sym ends_are) there

  pub vertices_are_sorted_ends : (sorted final : List Point) → IsPermutation ends sorted
      → IsSorted compare_points sorted → IsFiltered (DiffersFromLast equal_points) [] sorted final
      → final ≡ vertices_of pattern
  vertices_are_sorted_ends sorted final moved up kept =
      sorted_once ends sorted final moved up kept (vertices_of pattern) (vertices_are_inner_ends pattern).0
      to_vertex from_vertex
