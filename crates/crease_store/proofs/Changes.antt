-- A pattern with a piece or a line less, or with a piece in another kind, keeps the rules of a pattern.
use Rattle.std.proofs.Common.{◌≡◌, Bool, true, false, cond, not, List, [], ◌∷◌, map-id, refl, sym, ap, ap₂, subst, ◌∙◌, arith}
use Rattle.std.specs.Prelude.{IsTrue, map, filter}
use Rattle.std.specs.List.{AllByRecursion}
use Rattle.std.proofs.lemmas.Bool.{and_parts, and_from}
use Rattle.std.proofs.lemmas.List.{length-map}
use Rattle.std.proofs.lemmas.List.Sums.{length-filter, count_by-le-length}
use Rattle.plane_geometry.specs.declared.Point.{Point}
use Rattle.plane_geometry.specs.declared.Segment.{Segment}
use Rattle.plane_geometry.specs.Stretch.{MeetAtEnds}
use Rattle.plane_geometry.specs.SegmentView.{stretch_of}
use Rattle.crease_model.specs.declared.Kind.{Kind}
use Rattle.crease_model.specs.declared.Piece.{Piece}
use Rattle.crease_model.specs.View.{PatternView}
use Rattle.crease_model.specs.Rules.{IsPattern, AllMeetAtEnds, is_ascending, is_crease, is_crease_kind, is_on_sheet, segments_of}
use Rattle.crease_store.specs.Changed.{joins_points, without_piece, without_line, in_kind, with_kind}
use Rattle.crease_store.proofs.Ascending.{filter_ascends}

-- ---- what is kept of a list

module _ {X : Type 0} (keep : X → Bool) where
  all-filter : (P : X → Type 0) (xs : List X) → AllByRecursion P xs → AllByRecursion P (filter keep xs)
  all-filter P [] all = tt
  all-filter P (x ∷ xs) all =
      let rest = all-filter P xs all.1 in
      elim (keep x) as (λ b. AllByRecursion P (cond b (x ∷ filter keep xs) (filter keep xs))) [ true ↦ (all.0, rest) | false ↦ rest ]

meetings-filter : (keep : Piece → Bool) (ps : List Piece) → AllMeetAtEnds ps → AllMeetAtEnds (filter keep ps)
meetings-filter keep [] all = tt
meetings-filter keep (p ∷ ps) all =
    let rest = meetings-filter keep ps all.1 in
    elim (keep p) as (λ b. AllMeetAtEnds (cond b (p ∷ filter keep ps) (filter keep ps)))
    [ true ↦ (all-filter keep (λ q. MeetAtEnds (stretch_of p.segment) (stretch_of q.segment)) ps all.0, rest) | false ↦ rest ]

pub IsPattern-without_piece : (pattern : PatternView) (p q : Point) → IsPattern pattern → IsPattern (without_piece pattern p q)
IsPattern-without_piece pattern p q old =
    let keep : Piece → Bool = λ piece. not (joins_points p q piece.segment) in
    record {
      creases = all-filter keep (λ r. IsTrue (is_crease pattern.corners r)) pattern.pieces old.creases;
      meetings = meetings-filter keep pattern.pieces old.meetings;
      lines = old.lines;
      size = omega (arith, old.size, length-filter keep pattern.pieces, count_by-le-length keep pattern.pieces);
      order = (filter_ascends (λ (r : Piece). r.segment) keep pattern.pieces old.order.0, old.order.1);
    }

pub IsPattern-without_line : (pattern : PatternView) (p q : Point) → IsPattern pattern → IsPattern (without_line pattern p q)
IsPattern-without_line pattern p q old =
    let keep : Segment → Bool = λ s. not (joins_points p q s) in
    record {
      creases = old.creases;
      meetings = old.meetings;
      lines = all-filter keep (λ s. IsTrue (is_on_sheet pattern.corners (stretch_of s))) pattern.aux old.lines;
      size = omega (arith, old.size, length-filter keep pattern.aux, count_by-le-length keep pattern.aux);
      order = (old.order.0, ap is_ascending (sym (map-id (filter keep pattern.aux))) ∙ filter_ascends (λ (s : Segment). s) keep pattern.aux (ap is_ascending (map-id pattern.aux) ∙ old.order.1));
    }

-- ---- another kind

-- pieces whose segments stay
module _ (f : Piece → Piece) (stays : (p : Piece) → (f p).segment ≡ p.segment) where
  pub same_segments : (ps : List Piece) → segments_of (map f ps) ≡ segments_of ps
  same_segments [] = refl
  same_segments (p ∷ ps) = ap₂ ◌∷◌ (stays p) (same_segments ps)

  meetings-map : (ps : List Piece) → AllMeetAtEnds ps → AllMeetAtEnds (map f ps)
  meetings-map [] all = tt
  meetings-map (p ∷ ps) all = (each ps all.0, meetings-map ps all.1)
    where
      each : (qs : List Piece) → AllByRecursion (λ q. MeetAtEnds (stretch_of p.segment) (stretch_of q.segment)) qs → AllByRecursion (λ q. MeetAtEnds (stretch_of (f p).segment) (stretch_of q.segment)) (map f qs)
      each [] meet = tt
      each (q ∷ qs) meet = (
        subst (λ (s : Segment). MeetAtEnds (stretch_of s) (stretch_of (f q).segment)) (sym (stays p)) (subst (λ (s : Segment). MeetAtEnds (stretch_of p.segment) (stretch_of s)) (sym (stays q)) meet.0),
        each qs meet.1,
      )

all-map : (P : Piece → Type 0) (f : Piece → Piece) → ((p : Piece) → P p → P (f p)) → (ps : List Piece) → AllByRecursion P ps → AllByRecursion P (map f ps)
all-map P f keeps [] all = tt
all-map P f keeps (p ∷ ps) all = (keeps p all.0, all-map P f keeps ps all.1)

pub segment_stays : (kind : Kind) (p q : Point) (piece : Piece) → (in_kind kind p q piece).segment ≡ piece.segment
segment_stays kind p q piece =
    elim (joins_points p q piece.segment) as (λ b. (cond b (record piece { kind = kind }) piece).segment ≡ piece.segment) [ true ↦ refl | false ↦ refl ]

stays_crease : (corners : List Point) (kind : Kind) (p q : Point) → is_crease_kind kind ≡ true → (piece : Piece) → is_crease corners piece ≡ true → is_crease corners (in_kind kind p q piece) ≡ true
stays_crease corners kind p q is_kind piece old =
    elim (joins_points p q piece.segment) as (λ b. is_crease corners (cond b (record piece { kind = kind }) piece) ≡ true) [
      | true ↦ and_from (is_crease_kind kind) _ is_kind (and_parts (is_crease_kind piece.kind) _ old).1
      | false ↦ old
    ]

pub IsPattern-with_kind : (pattern : PatternView) (kind : Kind) (p q : Point) → IsPattern pattern → is_crease_kind kind ≡ true → IsPattern (with_kind pattern kind p q)
IsPattern-with_kind pattern kind p q old is_kind =
    let f = in_kind kind p q in
    let stays = segment_stays kind p q in
    record {
      creases = all-map (λ r. IsTrue (is_crease pattern.corners r)) f (stays_crease pattern.corners kind p q is_kind) pattern.pieces old.creases;
      meetings = meetings-map f stays pattern.pieces old.meetings;
      lines = old.lines;
      size = omega (arith, old.size, length-map pattern.pieces f);
      order = (ap is_ascending (same_segments f stays pattern.pieces) ∙ old.order.0, old.order.1);
    }
