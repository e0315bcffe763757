-- The laws of what is added, each proved.
use Rattle.std.proofs.Common.{◌≡◌, ◌↔◌, ◌⊎◌, inl, inr, ℕ, List, map, map-id, Bool, true, false, not, cond, nat_le, refl, sym, ap, subst, ◌∙◌}
use Rattle.std.specs.Prelude.{Contains, Option, None, Some, Ok, Err}
use Rattle.std.specs.declared.result.Result.{Result}
use Rattle.plane_geometry.specs.declared.Point.{Point}
use Rattle.plane_geometry.specs.declared.Segment.{Segment}
use Rattle.plane_geometry.specs.SegmentOf.{segment_of}
use Rattle.plane_geometry.specs.SegmentView.{stretch_of}
use Rattle.crease_model.specs.declared.Kind.{Kind}
use Rattle.crease_model.specs.declared.Kind.TheVariants.{Edge, Mountain, Valley, Aux, Unassigned}
use Rattle.crease_model.specs.declared.Piece.{Piece}
use Rattle.crease_model.specs.View.{PatternView}
use Rattle.crease_model.specs.Sheet.{is_within_side}
use Rattle.crease_model.specs.Rules.{IsPattern, AllMeetAtEnds, is_ascending, is_on_sheet, size_of, most_pieces}
use Rattle.line_split.specs.Cuts.{cuts_of, is_touched, untouched}
use Rattle.line_split.specs.MemberLaws.{Member, member, contained}
use Rattle.crease_store.specs.declared.faults.StoreRefusal.{StoreRefusal}
use Rattle.crease_store.specs.declared.faults.StoreRefusal.TheVariants.{EdgeOffBorder, OutsideSheet, OnBorder, Crossing, TooManyPieces}
use Rattle.crease_store.specs.Added.{IsAdded, IsAddedBetween, IsCreaseAdded, IsLineAdded, IsPieceOfAdd}
use Rattle.crease_store.specs.InOrder.{segment_at}
use Rattle.crease_store.specs.InOrder.{line_at}
use Rattle.crease_store.specs.Adding.{new_pieces, with_crease, with_line, if_it_fits, crease_cut, crease_added, line_added, segment_added, segment_refusal, added_between, add_of}
use Rattle.crease_store.specs.InOrder.{with_in_order}
use Rattle.crease_store.specs.Laws.{AddedMeet, AddedIsOne}
use Rattle.crease_store.proofs.Ascending.{one_ascending, filter_ascends}
use Rattle.crease_store.proofs.InOrderLaws.{placed_ascends, placed_all_ascends, placed_new, placed_old, placed_either}
use Rattle.crease_store.proofs.AddedParts.{piece_from_member, member_from_piece}
use Rattle.crease_store.proofs.Meetings.{crease_meets}

-- ---- what is added

pub crease_is_added : (old : PatternView) (kind : Kind) (s : Segment) (cuts : List Point) → IsPattern old → cuts_of s old.pieces ≡ Ok cuts → IsCreaseAdded old kind s (with_crease old kind s cuts)
crease_is_added old kind s cuts rules cut =
    record {
      corners = refl;
      aux = refl;
      order = placed_all_ascends segment_at (untouched (stretch_of s) old.pieces) (new_pieces old.pieces kind s cuts)
          (filter_ascends segment_at (λ (p : Piece). not (is_touched (stretch_of s) p)) old.pieces rules.order.0);
      pieces = λ q. (piece_from_member old.pieces kind s cuts rules.meetings cut q, member_from_piece old.pieces kind s cuts rules.meetings cut q);
    }

pub lines_ascend : (lines : List Segment) → is_ascending lines ≡ is_ascending (map line_at lines)
lines_ascend lines = sym (ap is_ascending (map-id lines))

pub line_is_added : (old : PatternView) (s : Segment) → IsPattern old → IsLineAdded old s (with_line old s)
line_is_added old s rules =
    record {
      corners = refl;
      pieces = refl;
      order = lines_ascend (with_in_order line_at old.aux s) ∙ placed_ascends line_at old.aux s (sym (lines_ascend old.aux) ∙ rules.order.1);
      aux = λ u. (λ c. old_or_new u (placed_either line_at old.aux s u (member _ u c)), there u);
    }
  where
    old_or_new : (u : Segment) → (s ≡ u) ⊎ Member old.aux u → Contains old.aux u ⊎ (u ≡ s)
    old_or_new u (inl e) = inr (sym e)
    old_or_new u (inr m) = inl (contained old.aux u m)

    new : (u : Segment) → s ≡ u → Contains (with_in_order line_at old.aux s) u
    new u e = subst (Contains (with_in_order line_at old.aux s)) e (contained _ s (placed_new line_at old.aux s))

    there : (u : Segment) → Contains old.aux u ⊎ (u ≡ s) → Contains (with_in_order line_at old.aux s) u
    there u (inl c) = elim (placed_old line_at old.aux s u (member old.aux u c)) [ inl m ↦ contained _ u m | inr same ↦ new u same ]
    there u (inr e) = new u (sym e)

-- ---- an accepted line

err_ok : {F : Type 0} (e : StoreRefusal) (p : PatternView) → Err e ≡ Ok p → F
err_ok e p h = absurd (cc)

fitted_is : (p q : PatternView) → if_it_fits p ≡ Ok q → p ≡ q
fitted_is p q e = go (nat_le (size_of p) most_pieces) e
  where
    go : (b : Bool) → cond b (Ok p) (Err (TooManyPieces (size_of p))) ≡ Ok q → p ≡ q
    go true f = cc
    go false f = err_ok (TooManyPieces (size_of p)) q f

-- what an answer after a refusal that did not come is
chosen_last : (b : Bool) (fault : StoreRefusal) (rest : Result PatternView StoreRefusal) (new : PatternView) → cond b (Err fault) rest ≡ Ok new → rest ≡ Ok new
chosen_last true fault rest new e = err_ok fault new e
chosen_last false fault rest new e = e

module _ (old : PatternView) (rules : IsPattern old) (new : PatternView) where
  by_cuts : (kind : Kind) (s : Segment) (r : Result (List Point) ℕ) → cuts_of s old.pieces ≡ r → crease_cut old kind s r ≡ Ok new → IsCreaseAdded old kind s new
  by_cuts kind s (Ok cuts) cut e = subst (IsCreaseAdded old kind s) (fitted_is (with_crease old kind s cuts) new e) (crease_is_added old kind s cuts rules cut)
  by_cuts kind s (Err n) cut e = err_ok (Crossing n) new e

  crease_accepted : (kind : Kind) (s : Segment) → crease_added old kind s ≡ Ok new → IsCreaseAdded old kind s new
  crease_accepted kind s e =
      by_cuts kind s (cuts_of s old.pieces) refl
      (chosen_last (is_within_side old.corners (stretch_of s)) OnBorder _ new (chosen_last (not (is_on_sheet old.corners (stretch_of s))) OutsideSheet _ new e))

  line_accepted : (s : Segment) → line_added old s ≡ Ok new → IsLineAdded old s new
  line_accepted s e =
      subst (IsLineAdded old s) (fitted_is (with_line old s) new (chosen_last (not (is_on_sheet old.corners (stretch_of s))) OutsideSheet _ new e)) (line_is_added old s rules)

  edge_accepted : (b : Bool) → cond b (Ok old) (Err EdgeOffBorder) ≡ Ok new → new ≡ old
  edge_accepted true e = cc
  edge_accepted false e = err_ok EdgeOffBorder new e

  accepted : (kind : Kind) (s : Segment) → segment_added old kind s ≡ Ok new → IsAdded old kind s new
  accepted Edge s e = edge_accepted (is_within_side old.corners (stretch_of s)) e
  accepted Mountain s e = crease_accepted Mountain s e
  accepted Valley s e = crease_accepted Valley s e
  accepted Aux s e = line_accepted s e
  accepted Unassigned s e = crease_accepted Unassigned s e

  by_segment : (kind : Kind) (from to : Point) (o : Option Segment) → segment_of from to ≡ o → added_between old kind from to o ≡ Ok new → IsAddedBetween old kind from to new
  by_segment kind from to None e h = err_ok (segment_refusal from to) new h
  by_segment kind from to (Some s) e h = record { segment = s; ends = e; added = accepted kind s h }

pub accepted_is_added : (old : PatternView) (kind : Kind) (from to : Point) (new : PatternView) → IsPattern old → add_of old kind from to ≡ Ok new → IsAddedBetween old kind from to new
unfolding add_of
accepted_is_added old kind from to new rules e = by_segment old rules new kind from to (segment_of from to) refl e

-- ---- one pattern only

view_is : (p q : PatternView) → p.corners ≡ q.corners → p.pieces ≡ q.pieces → p.aux ≡ q.aux → p ≡ q
view_is p q e f g = λ i. record { corners = e i; pieces = f i; aux = g i }

through : {X : Type 0} (P : X → Type 0) (xs ys : List X) → ((z : X) → Contains xs z ↔ P z) → ((z : X) → Contains ys z ↔ P z) → (z : X) → Member xs z → Member ys z
through P xs ys f g z m = member ys z ((g z).1 ((f z).0 (contained xs z m)))

pub crease_is_one : (old : PatternView) (kind : Kind) (s : Segment) (new other : PatternView) → IsCreaseAdded old kind s new → IsCreaseAdded old kind s other → new ≡ other
crease_is_one old kind s new other h k =
    let P = IsPieceOfAdd old.pieces kind (stretch_of s) in
    view_is new other (h.corners ∙ sym k.corners)
    (one_ascending (λ (p : Piece). p.segment) new.pieces other.pieces h.order k.order (through P new.pieces other.pieces h.pieces k.pieces) (through P other.pieces new.pieces k.pieces h.pieces))
    (h.aux ∙ sym k.aux)

pub line_is_one : (old : PatternView) (s : Segment) (new other : PatternView) → IsLineAdded old s new → IsLineAdded old s other → new ≡ other
line_is_one old s new other h k =
    let P = λ (u : Segment). Contains old.aux u ⊎ (u ≡ s) in
    view_is new other (h.corners ∙ sym k.corners) (h.pieces ∙ sym k.pieces)
    (one_ascending (λ (u : Segment). u) new.aux other.aux (ap is_ascending (map-id new.aux) ∙ h.order) (ap is_ascending (map-id other.aux) ∙ k.order)
    (through P new.aux other.aux h.aux k.aux) (through P other.aux new.aux k.aux h.aux))

pub added_is_one : AddedIsOne
added_is_one old Edge s new other h k = h ∙ sym k
added_is_one old Mountain s new other h k = crease_is_one old Mountain s new other h k
added_is_one old Valley s new other h k = crease_is_one old Valley s new other h k
added_is_one old Aux s new other h k = line_is_one old s new other h k
added_is_one old Unassigned s new other h k = crease_is_one old Unassigned s new other h k

-- ---- meetings

pub added_meet : AddedMeet
added_meet old Edge s new rules h = subst (λ (p : PatternView). AllMeetAtEnds p.pieces) (sym h) rules.meetings
added_meet old Mountain s new rules h = crease_meets old.pieces Mountain s rules.meetings new.pieces h.order h.pieces
added_meet old Valley s new rules h = crease_meets old.pieces Valley s rules.meetings new.pieces h.order h.pieces
added_meet old Aux s new rules h = subst AllMeetAtEnds (sym h.pieces) rules.meetings
added_meet old Unassigned s new rules h = crease_meets old.pieces Unassigned s rules.meetings new.pieces h.order h.pieces
