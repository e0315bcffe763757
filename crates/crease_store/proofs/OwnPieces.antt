-- A crease that meets the old pieces at ends alone cuts none and covers none: it is one piece more.
use Rattle.std.proofs.Common.{◌≡◌, true, false, ◌⊎◌, inl, inr, List, [], ◌∷◌, ◌++◌, refl, sym, subst}
use Rattle.std.specs.Prelude.{Contains}
use Rattle.std.proofs.lemmas.Bool.{and_parts, or_right, false_from_ne_true}
use Rattle.plane_geometry.specs.declared.Segment.{Segment}
use Rattle.plane_geometry.specs.Position.{Position}
use Rattle.plane_geometry.specs.SegmentView.{stretch_of}
use Rattle.plane_geometry.specs.Stretch.{Stretch, MeetAtEnds, is_between, is_end, is_on}
use Rattle.plane_geometry.specs.StretchLaws.{turned_zero, end_parts, from_end, to_end}
use Rattle.plane_geometry.specs.CommonPointLaws.{between_parts, between_no_end, end_same}
use Rattle.crease_model.specs.declared.Kind.{Kind}
use Rattle.crease_model.specs.declared.Piece.{Piece}
use Rattle.crease_model.specs.Rules.{AllMeetAtEnds}
use Rattle.line_split.specs.Cuts.{MeetsOutOfRange}
use Rattle.line_split.specs.MemberLaws.{Member, member, contained, member_left, member_right, member_either}
use Rattle.crease_store.specs.Added.{covers, is_vertex, HasAddedKind, IsPieceOfAdd}
use Rattle.crease_store.proofs.Covered.{new_end, old_end, meeting, vertex_parts, vertex_at_new, vertex_at_old, end_lies, covers_self, same_segment}
use Rattle.crease_store.proofs.Members.{piece_is, members_meet}
use Rattle.crease_store.proofs.Merges.{not_itself}

-- what is an end where it is on the stretch is not strictly between its ends
not_between : (v : Position) (s : Stretch) → (is_on v s ≡ true → is_end v s ≡ true) → is_between v s ≡ false
not_between v s ends = false_from_ne_true (is_between v s) (λ e. between_no_end v s (between_parts v s e) (ends (or_right (is_end v s) (is_between v s) e)))

-- where segments meet at ends alone, a common point is of two Surds
pub ends_in_range : (s u : Segment) → MeetAtEnds (stretch_of s) (stretch_of u) → MeetsOutOfRange (stretch_of s) (stretch_of u) → ⊥
ends_in_range s u meet out =
    let v = out.shared.0 in
    let ends = meet v out.shared.1 out.shared.2 in
    elim (end_parts v (stretch_of s) ends.0) [
      | inl e ↦ out.none s.from (end_lies _ (stretch_of s) (from_end (stretch_of s))) (end_lies _ (stretch_of u) (end_same v (stretch_of s).from (stretch_of u) (turned_zero (stretch_of s).from v e) ends.1))
      | inr e ↦ out.none s.to (end_lies _ (stretch_of s) (to_end (stretch_of s))) (end_lies _ (stretch_of u) (end_same v (stretch_of s).to (stretch_of u) e ends.1))
    ]

module _ (old : List Piece) (kind : Kind) (s : Segment) (meets_old : (p : Piece) → Member old p → MeetAtEnds (stretch_of s) (stretch_of p.segment)) (meetings : AllMeetAtEnds old) where
  abbrev new_piece : Piece
  new_piece = record { kind = kind; segment = s }

  abbrev all_pieces : List Piece
  all_pieces = old ++ new_piece ∷ []

  -- a vertex on s is an end of s
  end_of_new : (v : Position) → is_vertex old (stretch_of s) v ≡ true → is_on v (stretch_of s) ≡ true → is_end v (stretch_of s) ≡ true
  end_of_new v e on =
      elim (vertex_parts old (stretch_of s) v e) [
        | new_end l ↦ l
        | old_end p m l ↦ (meets_old p m v on (end_lies v (stretch_of p.segment) l)).0
        | meeting p m a b apart ↦ (meets_old p m v a b).0
      ]

  -- a vertex on an old piece is an end of it
  end_of_old : (u : Piece) → Member old u → (v : Position) → is_vertex old (stretch_of s) v ≡ true → is_on v (stretch_of u.segment) ≡ true → is_end v (stretch_of u.segment) ≡ true
  end_of_old u at v e on =
      elim (vertex_parts old (stretch_of s) v e) [
        | new_end l ↦ (meets_old u at v (end_lies v (stretch_of s) l) on).1
        | old_end p m l ↦ by_old p l (members_meet old p u meetings m at)
        | meeting p m a b apart ↦ (meets_old u at v a on).1
      ]
    where
      by_old : (p : Piece) → is_end v (stretch_of p.segment) ≡ true → (p ≡ u) ⊎ MeetAtEnds (stretch_of p.segment) (stretch_of u.segment) → is_end v (stretch_of u.segment) ≡ true
      by_old p l (inl same) = subst (λ (t : Piece). is_end v (stretch_of t.segment) ≡ true) same l
      by_old p l (inr meet) = (meet v (end_lies v (stretch_of p.segment) l) on).1

  -- s covers no old piece
  not_covered : (u : Piece) → Member old u → covers (stretch_of s) (stretch_of u.segment) ≡ false
  not_covered u at = false_from_ne_true (covers (stretch_of s) (stretch_of u.segment)) (λ e.
      let k = and_parts (is_on (stretch_of u.segment).from (stretch_of s)) (is_on (stretch_of u.segment).to (stretch_of s)) e in
      let meet = meets_old u at in
      let f = (meet (stretch_of u.segment).from k.0 (end_lies (stretch_of u.segment).from (stretch_of u.segment) (from_end (stretch_of u.segment)))).0 in
      let t = (meet (stretch_of u.segment).to k.1 (end_lies (stretch_of u.segment).to (stretch_of u.segment) (to_end (stretch_of u.segment)))).0 in
      not_itself s (subst (λ (r : Segment). MeetAtEnds (stretch_of s) (stretch_of r)) (same_segment u.segment s f t) meet))

  is_piece_new : IsPieceOfAdd old kind (stretch_of s) new_piece
  is_piece_new =
      record {
        from_vertex = vertex_at_new old (stretch_of s) _ (from_end (stretch_of s));
        to_vertex = vertex_at_new old (stretch_of s) _ (to_end (stretch_of s));
        none_between = λ v e. not_between v (stretch_of s) (end_of_new v e);
        covered = inl (covers_self (stretch_of s), refl);
      }

  is_piece_old : (u : Piece) → Member old u → IsPieceOfAdd old kind (stretch_of s) u
  is_piece_old u at =
      record {
        from_vertex = vertex_at_old old (stretch_of s) _ u at (from_end (stretch_of u.segment));
        to_vertex = vertex_at_old old (stretch_of s) _ u at (to_end (stretch_of u.segment));
        none_between = λ v e. not_between v (stretch_of u.segment) (end_of_old u at v e);
        covered = inr (not_covered u at, (u, contained old u at, covers_self (stretch_of u.segment), refl));
      }

  pub piece_from_member : (q : Piece) → Contains all_pieces q → IsPieceOfAdd old kind (stretch_of s) q
  piece_from_member q c =
      elim (member_either old (new_piece ∷ []) q (member all_pieces q c)) [
        | inl m ↦ is_piece_old q m
        | inr m ↦ elim m [ inl e ↦ subst (IsPieceOfAdd old kind (stretch_of s)) e is_piece_new | inr n ↦ absurd n ]
      ]

  pub member_from_piece : (q : Piece) → IsPieceOfAdd old kind (stretch_of s) q → Contains all_pieces q
  member_from_piece q h = contained all_pieces q (go h.covered)
    where
      go : HasAddedKind old kind (stretch_of s) q → Member all_pieces q
      go (inl w) =
          let k = and_parts (is_on (stretch_of q.segment).from (stretch_of s)) (is_on (stretch_of q.segment).to (stretch_of s)) w.0 in
          let same = same_segment q.segment s (end_of_new _ h.from_vertex k.0) (end_of_new _ h.to_vertex k.1) in
          member_right old (new_piece ∷ []) q (inl (piece_is new_piece q (sym w.1) (sym same)))
      go (inr w) =
          let u = (w.1).0 in
          let at = member old u (w.1).1 in
          let k = and_parts (is_on (stretch_of q.segment).from (stretch_of u.segment)) (is_on (stretch_of q.segment).to (stretch_of u.segment)) (w.1).2 in
          let same = same_segment q.segment u.segment (end_of_old u at _ h.from_vertex k.0) (end_of_old u at _ h.to_vertex k.1) in
          member_left old (new_piece ∷ []) q (subst (Member old) (piece_is u q (sym (w.1).3) (sym same)) at)
