-- A pattern with one more line keeps the rules of a pattern, and it has few pieces.
use Rattle.std.proofs.Common.{◌≡◌, ◌^◌, ◌<◌, ◌≤◌, true, false, ◌⊎◌, inl, inr, List, length, ap, subst, ◌∙◌, arith}
use Rattle.std.specs.Prelude.{IsTrue, Ok}
use Rattle.std.proofs.lemmas.Bool.{and_parts, and_from, not_from_false}
use Rattle.plane_geometry.specs.declared.Point.{Point}
use Rattle.plane_geometry.specs.declared.Segment.{Segment}
use Rattle.plane_geometry.specs.SegmentView.{stretch_of}
use Rattle.crease_model.specs.declared.Kind.{Kind}
use Rattle.crease_model.specs.declared.Piece.{Piece}
use Rattle.crease_model.specs.Sheet.{is_sheet, is_within_side}
use Rattle.crease_model.specs.View.{PatternView}
use Rattle.crease_model.specs.PartLaws.{part_is_crease}
use Rattle.crease_model.specs.Rules.{IsPattern, is_crease, is_crease_kind, is_on_sheet, size_of}
use Rattle.line_split.specs.Cuts.{cuts_of}
use Rattle.line_split.specs.MemberLaws.{Member, member, contained, all_member, all_from_members}
use Rattle.crease_store.specs.Added.{HasAddedKind}
use Rattle.crease_store.specs.InOrder.{line_at}
use Rattle.crease_store.specs.Adding.{pieces_with, with_crease, with_line}
use Rattle.crease_store.specs.InOrder.{with_in_order}
use Rattle.crease_store.proofs.AddLaws.{crease_is_added, line_is_added}
use Rattle.crease_store.proofs.Lengths.{few_with}
use Rattle.crease_store.proofs.Meetings.{crease_meets}
use Rattle.crease_store.proofs.InOrderLaws.{placed_either}

module _ (old : PatternView) (kind : Kind) (s : Segment) (rules : IsPattern old) (sheet : is_sheet old.corners ≡ true) (crease : is_crease old.corners (record { kind = kind; segment = s }) ≡ true) where
  -- each piece is on the new crease or on an old one
  piece_is_crease : (q : Piece) → HasAddedKind old.pieces kind (stretch_of s) q → is_crease old.corners q ≡ true
  piece_is_crease q (inl w) =
      part_is_crease old.corners (record { kind = kind; segment = s }) q sheet crease w.0 (ap is_crease_kind w.1 ∙ (and_parts (is_crease_kind kind) _ crease).0)
  piece_is_crease q (inr w) =
      let u = (w.1).0 in
      let u_is : is_crease old.corners u ≡ true = all_member (λ (p : Piece). IsTrue (is_crease old.corners p)) old.pieces u rules.creases (member old.pieces u (w.1).1) in
      part_is_crease old.corners u q sheet u_is (w.1).2 (ap is_crease_kind (w.1).3 ∙ (and_parts (is_crease_kind u.kind) _ u_is).0)

pub IsPattern-with_crease : (old : PatternView) (kind : Kind) (s : Segment) (cuts : List Point) → IsPattern old → is_sheet old.corners ≡ true → is_crease_kind kind ≡ true → is_on_sheet old.corners (stretch_of s) ≡ true → is_within_side old.corners (stretch_of s) ≡ false → cuts_of s old.pieces ≡ Ok cuts → size_of (with_crease old kind s cuts) ≤ 2000 → IsPattern (with_crease old kind s cuts)
IsPattern-with_crease old kind s cuts rules sheet is_kind on_sheet inside cut size =
    let added = crease_is_added old kind s cuts rules cut in
    let new = with_crease old kind s cuts in
    let crease : is_crease old.corners (record { kind = kind; segment = s }) ≡ true =
    and_from (is_crease_kind kind) _ is_kind (and_from (is_on_sheet old.corners (stretch_of s)) _ on_sheet (not_from_false _ inside)) in
    record {
      creases = all_from_members (λ (q : Piece). IsTrue (is_crease old.corners q)) new.pieces (λ q m. piece_is_crease old kind s rules sheet crease q ((added.pieces q).0 (contained new.pieces q m)).covered);
      meetings = crease_meets old.pieces kind s rules.meetings new.pieces added.order added.pieces;
      lines = rules.lines;
      size = size;
      order = (added.order, rules.order.1);
    }

pub IsPattern-with_line : (old : PatternView) (s : Segment) → IsPattern old → is_on_sheet old.corners (stretch_of s) ≡ true → size_of (with_line old s) ≤ 2000 → IsPattern (with_line old s)
IsPattern-with_line old s rules on_sheet size =
    record {
      creases = rules.creases;
      meetings = rules.meetings;
      lines = all_from_members (λ (u : Segment). IsTrue (is_on_sheet old.corners (stretch_of u))) (with_in_order line_at old.aux s) (λ u m. line_on u (placed_either line_at old.aux s u m));
      size = size;
      order = (rules.order.0, (line_is_added old s rules).order);
    }
  where
    line_on : (u : Segment) → (s ≡ u) ⊎ Member old.aux u → is_on_sheet old.corners (stretch_of u) ≡ true
    line_on u (inl e) = subst (λ (t : Segment). is_on_sheet old.corners (stretch_of t) ≡ true) e on_sheet
    line_on u (inr m) = all_member (λ (t : Segment). IsTrue (is_on_sheet old.corners (stretch_of t))) old.aux u rules.lines m

pub pieces_with_few : (old : PatternView) (kind : Kind) (s : Segment) (cuts : List Point) → IsPattern old → cuts_of s old.pieces ≡ Ok cuts → length (pieces_with old.pieces kind s cuts) < 2 ^ 30
pieces_with_few old kind s cuts rules cut = few_with old.pieces kind s cuts (omega (arith, rules.size)) cut
