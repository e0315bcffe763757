-- The pieces once a crease is added are the parts of the new one, those parts of old ones that it does not cover, and the
-- old ones that it does not touch.
use Rattle.std.proofs.Common.{◌≡◌, Bool, true, false, not, ◌⊎◌, inl, inr, List, refl, sym, ap, subst, ◌∙◌}
use Rattle.std.specs.Prelude.{Contains, Ok}
use Rattle.std.proofs.lemmas.Bool.{and_parts, and_from, or_cases, or_right, not-true, not_from_false, false_from_ne_true, both_ways}
use Rattle.surd_number.specs.declared.Sgn.TheVariants.{Zero}
use Rattle.plane_geometry.specs.declared.Point.{Point}
use Rattle.plane_geometry.specs.declared.Segment.{Segment}
use Rattle.plane_geometry.specs.Position.{Position, position_of}
use Rattle.plane_geometry.specs.SegmentView.{stretch_of}
use Rattle.plane_geometry.specs.Stretch.{is_between, is_end, is_on}
use Rattle.plane_geometry.specs.SideLaws.{order_of}
use Rattle.plane_geometry.specs.StretchLaws.{end_parts, from_end, to_end}
use Rattle.plane_geometry.specs.CommonPointLaws.{between_parts, between_from_parts, touching_is}
use Rattle.plane_geometry.specs.SegmentLaws.{point_is}
use Rattle.crease_model.specs.declared.Kind.{Kind}
use Rattle.crease_model.specs.declared.Piece.{Piece}
use Rattle.crease_model.specs.Rules.{AllMeetAtEnds}
use Rattle.line_split.specs.Cuts.{cuts_of, is_touched, untouched, touched}
use Rattle.line_split.specs.CutLaws.{cuts_are_cuts, cuts_are_all, cuts_ascend}
use Rattle.line_split.specs.MemberLaws.{Member, member, contained, filter_member, member_filter, member_left, member_right, member_either}
use Rattle.line_split.specs.Parts.{parts_of, IsPartEnd, IsPart}
use Rattle.line_split.specs.PartLaws.{parts_are_parts, parts_are_all, part_is_on}
use Rattle.crease_store.specs.Added.{covers, is_vertex, HasAddedKind, IsPieceOfAdd}
use Rattle.crease_store.specs.InOrder.{segment_at, HaveOneOnEach}
use Rattle.crease_store.specs.Adding.{rest_of, rests_of, new_pieces, pieces_with}
use Rattle.crease_store.proofs.Covered.{end_lies, covers_self, same_segment, covering_between, between_same, vertex_at_new, vertex_at_old, inner_vertex_on, covered_once}
use Rattle.crease_store.proofs.Members.{member_flat_map, flat_map_member, piece_is}
use Rattle.crease_store.proofs.InOrderLaws.{placed_all_either, placed_all_has}

-- ---- vertices and cut points

module _ (old : List Piece) (s : Segment) (cuts : List Point) (cut : cuts_of s old ≡ Ok cuts) where
  cut_vertex : (v : Point) → Contains cuts v → is_vertex old (stretch_of s) (position_of v) ≡ true
  cut_vertex v c = (and_parts (is_on (position_of v) (stretch_of s)) (is_vertex old (stretch_of s) (position_of v)) (cuts_are_cuts s old cuts cut v c)).1

  -- a vertex on s is in the place of a cut point
  vertex_cut : (v : Position) → is_vertex old (stretch_of s) v ≡ true → is_on v (stretch_of s) ≡ true → (p : Point) × Contains cuts p × (order_of v (position_of p) ≡ Zero)
  vertex_cut v e on = cuts_are_all s old cuts cut v (and_from (is_on v (stretch_of s)) (is_vertex old (stretch_of s) v) on e)

  vertex_is_cut : (v : Point) → is_vertex old (stretch_of s) (position_of v) ≡ true → is_on (position_of v) (stretch_of s) ≡ true → Contains cuts v
  vertex_is_cut v e on = let w = vertex_cut (position_of v) e on in subst (Contains cuts) (sym (point_is v w.0 w.2)) w.1

  -- a piece with vertices at its ends, on which the others are on s too
  record IsCutAtVertices (p : Piece) : Type 0 where
    from_vertex : is_vertex old (stretch_of s) (stretch_of p.segment).from ≡ true
    to_vertex : is_vertex old (stretch_of s) (stretch_of p.segment).to ≡ true
    inner : (v : Position) → is_vertex old (stretch_of s) v ≡ true → is_between v (stretch_of p.segment) ≡ true → is_on v (stretch_of s) ≡ true

  module _ (p : Piece) (has : IsCutAtVertices p) where
    part_end_vertex : (v : Point) → IsPartEnd p cuts v → is_vertex old (stretch_of s) (position_of v) ≡ true
    part_end_vertex v (inl e) = subst (λ (t : Point). is_vertex old (stretch_of s) (position_of t) ≡ true) (sym e) has.from_vertex
    part_end_vertex v (inr (inl e)) = subst (λ (t : Point). is_vertex old (stretch_of s) (position_of t) ≡ true) (sym e) has.to_vertex
    part_end_vertex v (inr (inr k)) = cut_vertex v k.0

    part_none_between : (q : Piece) → IsPart p cuts q → (v : Position) → is_vertex old (stretch_of s) v ≡ true → is_between v (stretch_of q.segment) ≡ false
    part_none_between q h v e =
        false_from_ne_true (is_between v (stretch_of q.segment)) (λ b.
        let lies = between_parts v (stretch_of q.segment) b in
        let in_p = covering_between (stretch_of p.segment) (stretch_of q.segment) v p.segment.stretch q.segment.stretch (part_is_on p cuts q h) lies in
        let w = vertex_cut v e (has.inner v e (between_from_parts v (stretch_of p.segment) in_p)) in
        both_ways _ (h.none_between w.0 w.1) (between_from_parts (position_of w.0) (stretch_of q.segment) (between_same v (position_of w.0) (stretch_of q.segment) w.2 lies)))

    vertex_part_end : (v : Point) → is_vertex old (stretch_of s) (position_of v) ≡ true → is_on (position_of v) (stretch_of p.segment) ≡ true → IsPartEnd p cuts v
    vertex_part_end v e on =
        elim (or_cases (is_end (position_of v) (stretch_of p.segment)) (is_between (position_of v) (stretch_of p.segment)) on) [
          | inl l ↦ elim (end_parts (position_of v) (stretch_of p.segment) l) [
            | inl f ↦ inl (sym (point_is p.segment.from v f))
            | inr f ↦ inr (inl (point_is v p.segment.to f))
          ]
          | inr b ↦ inr (inr (vertex_is_cut v e (has.inner (position_of v) e b), b))
        ]

    -- what the piece covers from one vertex to the next is a part of it
    is_part : (q : Piece) → q.kind ≡ p.kind → is_vertex old (stretch_of s) (stretch_of q.segment).from ≡ true → is_vertex old (stretch_of s) (stretch_of q.segment).to ≡ true
        → ((v : Position) → is_vertex old (stretch_of s) v ≡ true → is_between v (stretch_of q.segment) ≡ false) → covers (stretch_of p.segment) (stretch_of q.segment) ≡ true → IsPart p cuts q
    is_part q same_kind from_vertex to_vertex none_between e =
        let ends = and_parts (is_on (stretch_of q.segment).from (stretch_of p.segment)) (is_on (stretch_of q.segment).to (stretch_of p.segment)) e in
        record {
          kind = same_kind;
          from = vertex_part_end q.segment.from from_vertex ends.0;
          to = vertex_part_end q.segment.to to_vertex ends.1;
          none_between = λ v c. none_between (position_of v) (cut_vertex v c);
        }

-- ---- the pieces

module _ (old : List Piece) (kind : Kind) (s : Segment) (cuts : List Point) (meetings : AllMeetAtEnds old) (cut : cuts_of s old ≡ Ok cuts) where
  abbrev new_piece : Piece
  new_piece = record { kind = kind; segment = s }

  abbrev IsPiece : Piece → Type 0
  IsPiece q = IsPieceOfAdd old kind (stretch_of s) q

  new_cut : IsCutAtVertices old s cuts cut new_piece
  new_cut = record {
    from_vertex = vertex_at_new old (stretch_of s) _ (from_end (stretch_of s));
    to_vertex = vertex_at_new old (stretch_of s) _ (to_end (stretch_of s));
    inner = λ v e b. or_right (is_end v (stretch_of s)) (is_between v (stretch_of s)) b;
  }

  old_cut : (u : Piece) → Member old u → IsCutAtVertices old s cuts cut u
  old_cut u at = record {
    from_vertex = vertex_at_old old (stretch_of s) _ u at (from_end (stretch_of u.segment));
    to_vertex = vertex_at_old old (stretch_of s) _ u at (to_end (stretch_of u.segment));
    inner = inner_vertex_on old meetings (stretch_of s) u at;
  }

  -- ---- each is a piece of the new pattern

  part_is_piece : (p q : Piece) → IsCutAtVertices old s cuts cut p → Member (parts_of p cuts) q → (IsPart p cuts q → HasAddedKind old kind (stretch_of s) q) → IsPiece q
  part_is_piece p q has m covered =
      let h = parts_are_parts p cuts (cuts_ascend s old cuts cut) q (contained (parts_of p cuts) q m) in
      record {
        from_vertex = part_end_vertex old s cuts cut p has q.segment.from h.from;
        to_vertex = part_end_vertex old s cuts cut p has q.segment.to h.to;
        none_between = part_none_between old s cuts cut p has q h;
        covered = covered h;
      }

  new_part : (q : Piece) → Member (parts_of new_piece cuts) q → IsPiece q
  new_part q m = part_is_piece new_piece q new_cut m (λ h. inl (part_is_on new_piece cuts q h, h.kind))

  old_part : (u q : Piece) → Member old u → Member (parts_of u cuts) q → covers (stretch_of s) (stretch_of q.segment) ≡ false → IsPiece q
  old_part u q at m left = part_is_piece u q (old_cut u at) m (λ h. inr (left, (u, contained old u at, part_is_on u cuts q h, h.kind)))

  -- a point of both is of a touched piece
  touched_at : (u : Piece) (v : Position) → is_on v (stretch_of s) ≡ true → is_on v (stretch_of u.segment) ≡ true → is_touched (stretch_of s) u ≡ true
  touched_at u v on_s on_u = (touching_is (stretch_of s) (stretch_of u.segment) s.stretch u.segment.stretch).1 (v, on_s, on_u)

  untouched_piece : (u : Piece) → Member old u → is_touched (stretch_of s) u ≡ false → IsPiece u
  untouched_piece u at apart =
      let has = old_cut u at in
      record {
        from_vertex = vertex_at_old old (stretch_of s) _ u at (from_end (stretch_of u.segment));
        to_vertex = vertex_at_old old (stretch_of s) _ u at (to_end (stretch_of u.segment));
        none_between = λ v e. false_from_ne_true (is_between v (stretch_of u.segment)) (λ b.
            both_ways _ apart (touched_at u v (inner_vertex_on old meetings (stretch_of s) u at v e b) (or_right (is_end v (stretch_of u.segment)) (is_between v (stretch_of u.segment)) b)));
        covered = inr (not_covered, (u, contained old u at, covers_self (stretch_of u.segment), refl));
      }
    where
      not_covered : covers (stretch_of s) (stretch_of u.segment) ≡ false
      not_covered = false_from_ne_true (covers (stretch_of s) (stretch_of u.segment)) (λ e.
          let k = and_parts (is_on (stretch_of u.segment).from (stretch_of s)) (is_on (stretch_of u.segment).to (stretch_of s)) e in
          both_ways _ apart (touched_at u (stretch_of u.segment).from k.0 (end_lies (stretch_of u.segment).from (stretch_of u.segment) (from_end (stretch_of u.segment)))))

  each_is_piece : (q : Piece) → Member (new_pieces old kind s cuts) q ⊎ Member (untouched (stretch_of s) old) q → IsPiece q
  each_is_piece q (inl m) =
      elim (member_either (rests_of (stretch_of s) cuts (touched (stretch_of s) old)) (parts_of new_piece cuts) q m) [
        | inl n ↦ (let w = flat_map_member (rest_of (stretch_of s) cuts) _ q n in
            let at = filter_member (is_touched (stretch_of s)) old w.0 w.1 in
            let left = filter_member (λ (t : Piece). not (covers (stretch_of s) (stretch_of t.segment))) (parts_of w.0 cuts) q w.2 in
            old_part w.0 q at.0 left.0 (not-true _ left.1))
        | inr n ↦ new_part q n
      ]
  each_is_piece q (inr m) = let k = filter_member (λ (t : Piece). not (is_touched (stretch_of s) t)) old q m in untouched_piece q k.0 (not-true _ k.1)

  -- ---- all are there

  part_there : (p q : Piece) → IsCutAtVertices old s cuts cut p → IsPiece q → q.kind ≡ p.kind → covers (stretch_of p.segment) (stretch_of q.segment) ≡ true → Member (parts_of p cuts) q
  part_there p q has h same_kind e =
      member (parts_of p cuts) q (parts_are_all p cuts (cuts_ascend s old cuts cut) q (is_part old s cuts cut p has q same_kind h.from_vertex h.to_vertex h.none_between e))

  -- what an untouched piece covers is that piece
  whole_untouched : (u q : Piece) → Member old u → is_touched (stretch_of s) u ≡ false → IsPiece q → q.kind ≡ u.kind → covers (stretch_of u.segment) (stretch_of q.segment) ≡ true → u ≡ q
  whole_untouched u q at apart h same_kind e = piece_is u q (sym same_kind) (sym (same_segment q.segment u.segment (end_at _ h.from_vertex ends.0) (end_at _ h.to_vertex ends.1)))
    where
      ends : (is_on (stretch_of q.segment).from (stretch_of u.segment) ≡ true) × (is_on (stretch_of q.segment).to (stretch_of u.segment) ≡ true)
      ends = and_parts (is_on (stretch_of q.segment).from (stretch_of u.segment)) (is_on (stretch_of q.segment).to (stretch_of u.segment)) e

      end_at : (v : Position) → is_vertex old (stretch_of s) v ≡ true → is_on v (stretch_of u.segment) ≡ true → is_end v (stretch_of u.segment) ≡ true
      end_at v vertex on =
          elim (or_cases (is_end v (stretch_of u.segment)) (is_between v (stretch_of u.segment)) on) [
            | inl l ↦ l
            | inr b ↦ absurd (both_ways _ apart (touched_at u v (inner_vertex_on old meetings (stretch_of s) u at v vertex b) on))
          ]

  piece_there : (q : Piece) → IsPiece q → Member (new_pieces old kind s cuts) q ⊎ Member (untouched (stretch_of s) old) q
  piece_there q h = go h.covered
    where
      by_touched : (u : Piece) → Member old u → covers (stretch_of s) (stretch_of q.segment) ≡ false → covers (stretch_of u.segment) (stretch_of q.segment) ≡ true → q.kind ≡ u.kind → (b : Bool) → is_touched (stretch_of s) u ≡ b
          → Member (new_pieces old kind s cuts) q ⊎ Member (untouched (stretch_of s) old) q
      by_touched u at left e same_kind true hit =
          inl (member_left (rests_of (stretch_of s) cuts (touched (stretch_of s) old)) (parts_of new_piece cuts) q
          (member_flat_map (rest_of (stretch_of s) cuts) _ u q (member_filter (is_touched (stretch_of s)) old u at hit)
          (member_filter (λ (t : Piece). not (covers (stretch_of s) (stretch_of t.segment))) (parts_of u cuts) q (part_there u q (old_cut u at) h same_kind e) (not_from_false _ left))))
      by_touched u at left e same_kind false apart =
          inr (subst (Member (untouched (stretch_of s) old)) (whole_untouched u q at apart h same_kind e)
          (member_filter (λ (t : Piece). not (is_touched (stretch_of s) t)) old u at (not_from_false _ apart)))

      go : HasAddedKind old kind (stretch_of s) q → Member (new_pieces old kind s cuts) q ⊎ Member (untouched (stretch_of s) old) q
      go (inl w) = inl (member_right (rests_of (stretch_of s) cuts (touched (stretch_of s) old)) (parts_of new_piece cuts) q (part_there new_piece q new_cut h w.1 w.0))
      go (inr w) = let u = (w.1).0 in by_touched u (member old u (w.1).1) w.0 (w.1).2 (w.1).3 (is_touched (stretch_of s) u) refl

  -- ---- one piece on a segment

  abbrev HasKind : Segment → Kind → Type 0
  HasKind t n = HasAddedKind old kind (stretch_of s) (record { kind = n; segment = t })

  one_on_segment : (q r : Piece) → IsPiece q → IsPiece r → q.segment ≡ r.segment → q ≡ r
  one_on_segment q r h k same = piece_is q r (go h.covered (subst (λ (t : Segment). HasKind t r.kind) (sym same) k.covered)) same
    where
      go : HasAddedKind old kind (stretch_of s) q → HasKind q.segment r.kind → q.kind ≡ r.kind
      go (inl a) (inl b) = a.1 ∙ sym b.1
      go (inl a) (inr b) = absurd (both_ways _ b.0 a.0)
      go (inr a) (inl b) = absurd (both_ways _ a.0 b.0)
      go (inr a) (inr b) =
          let u = (a.1).0 in
          let w = (b.1).0 in
          (a.1).3
          ∙ ap (λ (t : Piece). t.kind) (covered_once old meetings u w q.segment (member old u (a.1).1) (member old w (b.1).1) (a.1).2 (b.1).2)
          ∙ sym (b.1).3

  pub one_on_each : HaveOneOnEach (untouched (stretch_of s) old) (new_pieces old kind s cuts)
  one_on_each q r m n same = one_on_segment q r (each_is_piece q (of q m)) (each_is_piece r (of r n)) same
    where
      of : (z : Piece) → Contains (new_pieces old kind s cuts) z ⊎ Contains (untouched (stretch_of s) old) z
          → Member (new_pieces old kind s cuts) z ⊎ Member (untouched (stretch_of s) old) z
      of z (inl c) = inl (member _ z c)
      of z (inr c) = inr (member _ z c)

  -- ---- the list

  pub piece_from_member : (q : Piece) → Contains (pieces_with old kind s cuts) q → IsPieceOfAdd old kind (stretch_of s) q
  piece_from_member q c = each_is_piece q (placed_all_either segment_at (untouched (stretch_of s) old) (new_pieces old kind s cuts) q (member _ q c))

  pub member_from_piece : (q : Piece) → IsPieceOfAdd old kind (stretch_of s) q → Contains (pieces_with old kind s cuts) q
  member_from_piece q h =
      contained _ q (placed_all_has segment_at (untouched (stretch_of s) old) (new_pieces old kind s cuts) q (λ w m same. one_on_segment w q (each_is_piece w m) h same) (piece_there q h))
