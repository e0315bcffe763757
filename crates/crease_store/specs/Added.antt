-- Adding a segment to a pattern: which pieces and lines there are then.
use Rattle.std.specs.Prelude.{◌≡◌, ◌⊎◌, ◌↔◌, Bool, ◌&&◌, ◌||◌, List, Some, Contains, IsTrue, IsFalse}
use Rattle.std.specs.List.{list_any}
use Rattle.plane_geometry.specs.declared.Point.{Point}
use Rattle.plane_geometry.specs.declared.Segment.{Segment}
use Rattle.plane_geometry.specs.Position.{Position}
use Rattle.plane_geometry.specs.SegmentOf.{segment_of}
use Rattle.plane_geometry.specs.SegmentView.{stretch_of}
use Rattle.plane_geometry.specs.Stretch.{Stretch, is_between, is_end, is_on}
use Rattle.crease_model.specs.declared.Kind.{Kind}
use Rattle.crease_model.specs.declared.Kind.TheVariants.{Edge, Mountain, Valley, Aux, Unassigned}
use Rattle.crease_model.specs.declared.Piece.{Piece}
use Rattle.crease_model.specs.Rules.{is_ascending, segments_of}
use Rattle.crease_model.specs.View.{PatternView}
use Rattle.line_split.specs.Cuts.{is_meeting_point}

-- both ends of u are on s
abbrev pub covers : Stretch → Stretch → Bool
covers s u = is_on u.from s && is_on u.to s

-- where pieces may end: at the ends of s and of the old pieces, and where s meets an old piece of another
-- direction
abbrev pub is_vertex : List Piece → Stretch → Position → Bool
is_vertex old s v =
    is_end v s
    || list_any (λ p. is_end v (stretch_of p.segment) || is_meeting_point v s (stretch_of p.segment)) old

-- some old piece of this kind covers u
abbrev pub IsCoveredInKind : List Piece → Stretch → Kind → Type 0
IsCoveredInKind old u kind =
    (p : Piece) × Contains old p × IsTrue (covers (stretch_of p.segment) u) × (kind ≡ p.kind)

-- the new kind where s covers the piece, else that of an old piece that covers it
abbrev pub HasAddedKind : List Piece → Kind → Stretch → Piece → Type 0
HasAddedKind old kind s q =
    (IsTrue (covers s (stretch_of q.segment)) × (q.kind ≡ kind))
    ⊎ (IsFalse (covers s (stretch_of q.segment)) × IsCoveredInKind old (stretch_of q.segment) q.kind)

-- q is one of the pieces once s is added
pub record IsPieceOfAdd (old : List Piece) (kind : Kind) (s : Stretch) (q : Piece) : Type 0 where
  pub from_vertex : IsTrue (is_vertex old s (stretch_of q.segment).from)
  pub to_vertex : IsTrue (is_vertex old s (stretch_of q.segment).to)
  pub none_between : (v : Position)
      → IsTrue (is_vertex old s v)
      → IsFalse (is_between v (stretch_of q.segment))
  pub covered : HasAddedKind old kind s q

-- s is one more crease
pub record IsCreaseAdded (old : PatternView) (kind : Kind) (s : Segment) (new : PatternView) : Type 0 where
  pub corners : new.corners ≡ old.corners
  pub aux : new.aux ≡ old.aux
  pub order : IsTrue (is_ascending (segments_of new.pieces))
  pub pieces : (q : Piece) → Contains new.pieces q ↔ IsPieceOfAdd old.pieces kind (stretch_of s) q

-- s is one more auxiliary line
pub record IsLineAdded (old : PatternView) (s : Segment) (new : PatternView) : Type 0 where
  pub corners : new.corners ≡ old.corners
  pub pieces : new.pieces ≡ old.pieces
  pub order : IsTrue (is_ascending new.aux)
  pub aux : (u : Segment) → Contains new.aux u ↔ (Contains old.aux u ⊎ (u ≡ s))

-- new is the old pattern with s added in this kind; an edge of the sheet changes nothing
abbrev pub IsAdded : PatternView → Kind → Segment → PatternView → Type 0
IsAdded old Edge s new = new ≡ old
IsAdded old Mountain s new = IsCreaseAdded old Mountain s new
IsAdded old Valley s new = IsCreaseAdded old Valley s new
IsAdded old Aux s new = IsLineAdded old s new
IsAdded old Unassigned s new = IsCreaseAdded old Unassigned s new

-- the same with the segment between two points
pub record IsAddedBetween (old : PatternView) (kind : Kind) (from to : Point) (new : PatternView)
    : Type 0 where
  pub segment : Segment
  pub ends : segment_of from to ≡ Some segment
  pub added : IsAdded old kind segment new
