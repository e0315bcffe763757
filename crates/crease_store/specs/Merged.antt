-- Merging: pieces of one direction and kind that are joined at vertices where nothing else ends become one
-- piece.
use Rattle.std.specs.Prelude.{◌≡◌, ◌≢◌, ◌⊎◌, ◌↔◌, ⊤, Contains, IsTrue, IsFalse, ℕ, zero, suc, Bool}
use Rattle.std.specs.Prelude.{false, ◌&&◌, nat_eq, List, [], ◌∷◌, length, filter, Option, None, Some}
use Rattle.std.specs.Prelude.{unwrap_or, if◌then◌else◌}
use Rattle.plane_geometry.specs.declared.Point.{Point}
use Rattle.plane_geometry.specs.declared.Segment.{Segment}
use Rattle.plane_geometry.specs.Position.{position_of, is_same_position}
use Rattle.plane_geometry.specs.Direction.{opposite_number}
use Rattle.plane_geometry.specs.Stretch.{is_end}
use Rattle.plane_geometry.specs.SegmentOf.{segment_of}
use Rattle.plane_geometry.specs.SegmentView.{stretch_of, lesser_end, greater_end, direction_number}
use Rattle.crease_model.specs.Kind.{is_same_kind}
use Rattle.crease_model.specs.declared.Piece.{Piece}
use Rattle.crease_model.specs.Rules.{is_ascending, segments_of}
use Rattle.crease_model.specs.View.{PatternView}
use Rattle.crease_store.specs.InOrder.{segment_at, with_in_order}
use Rattle.crease_store.specs.Rising.{beginning_of, arrival_of}

-- this end of p is v
abbrev pub ends_at : (Piece → Point) → Point → Piece → Bool
ends_at end v p = is_same_position (position_of (end p)) (position_of v)

-- the piece of a list of one
abbrev pub single : List Piece → Option Piece
single [] = None
single (p ∷ []) = Some p
single (p ∷ q ∷ ps) = None

-- the only piece of which this end is v
abbrev pub only_at : (Piece → Point) → List Piece → Point → Option Piece
only_at end pieces v = single (filter (ends_at end v) pieces)

-- of one direction and kind
abbrev pub is_alike : Piece → Piece → Bool
is_alike p q = is_same_kind p.kind q.kind && nat_eq (direction_number p.segment) (direction_number q.segment)

abbrev pub are_alike : Option Piece → Option Piece → Bool
are_alike None _ = false
are_alike (Some p) None = false
are_alike (Some p) (Some q) = is_alike p q

-- exactly two pieces end at v, in opposite directions and of one kind: since each piece runs from its lesser
-- end to its greater, one arrives at v, and one goes on from there in its direction
unfoldable pub is_loose : List Piece → Point → Bool
is_loose pieces v = are_alike (only_at arrival_of pieces v) (only_at beginning_of pieces v)

-- the piece that goes on from p, if p ends at a loose vertex
unfoldable pub next_piece : List Piece → Piece → Option Piece
next_piece pieces p =
    if is_loose pieces (greater_end p.segment) then only_at beginning_of pieces (greater_end p.segment)
    else None

-- the piece that is reached from p in at most n steps
abbrev pub last_piece : ℕ → List Piece → Piece → Piece
last_piece zero pieces p = p
last_piece (suc n) pieces p = last_piece n pieces (unwrap_or (next_piece pieces p) p)

abbrev pub joined_to : Piece → Piece → Piece
joined_to p q =
    record p { segment = unwrap_or (segment_of (lesser_end p.segment) (greater_end q.segment)) p.segment }

-- the chain that begins with p, as one piece
unfoldable pub merged_from : List Piece → Piece → Piece
merged_from pieces p = joined_to p (last_piece (length pieces) pieces p)

-- the chains that begin with one of ps, in order
abbrev pub merged_among : List Piece → List Piece → List Piece
merged_among pieces [] = []
merged_among pieces (p ∷ ps) =
    if is_loose pieces (lesser_end p.segment) then merged_among pieces ps
    else with_in_order segment_at (merged_among pieces ps) (merged_from pieces p)

-- all loose vertices are taken away at once; the auxiliary lines and the sheet stay
unfoldable pub merge_of : PatternView → PatternView
merge_of pattern = record pattern { pieces = merged_among pattern.pieces pattern.pieces }

-- ---- the same in words

-- q goes on from p at a loose vertex
pub record IsJoined (pieces : List Piece) (p q : Piece) : Type 0 where
  pub first : Contains pieces p
  pub second : Contains pieces q
  pub vertex : greater_end p.segment ≡ lesser_end q.segment
  pub loose : IsTrue (is_loose pieces (greater_end p.segment))
  pub kind : p.kind ≡ q.kind
  pub direction : direction_number p.segment ≡ direction_number q.segment

-- p and then ps, each joined to the next
abbrev pub IsChain : List Piece → Piece → List Piece → Type 0
IsChain pieces p [] = ⊤
IsChain pieces p (q ∷ qs) = IsJoined pieces p q × IsChain pieces q qs

abbrev pub last_in_chain : Piece → List Piece → Piece
last_in_chain p [] = p
last_in_chain p (q ∷ qs) = last_in_chain q qs

-- q is a chain as one piece, and neither of its ends is loose
pub record IsPieceOfMerge (old : List Piece) (q : Piece) : Type 0 where
  pub first : Piece
  pub rest : List Piece
  pub there : Contains old first
  pub chain : IsChain old first rest
  pub from : lesser_end q.segment ≡ lesser_end first.segment
  pub to : greater_end q.segment ≡ greater_end (last_in_chain first rest).segment
  pub kind : q.kind ≡ first.kind
  pub begins : IsFalse (is_loose old (lesser_end first.segment))
  pub ends : IsFalse (is_loose old (greater_end (last_in_chain first rest).segment))

pub record IsMerged (old new : PatternView) : Type 0 where
  pub corners : new.corners ≡ old.corners
  pub aux : new.aux ≡ old.aux
  pub order : IsTrue (is_ascending (segments_of new.pieces))
  pub pieces : (q : Piece) → Contains new.pieces q ↔ IsPieceOfMerge old.pieces q

-- the direction in which s leaves v, one of its ends
abbrev pub direction_from : Point → Segment → ℕ
direction_from v s =
    if is_same_position (position_of v) (position_of (lesser_end s)) then direction_number s
    else opposite_number (direction_number s)

-- exactly two pieces end at v, in opposite directions and of one kind
pub record IsLoose (pieces : List Piece) (v : Point) : Type 0 where
  pub one : Piece
  pub other : Piece
  pub one_there : Contains pieces one
  pub other_there : Contains pieces other
  pub two : one ≢ other
  pub one_ends : IsTrue (is_end (position_of v) (stretch_of one.segment))
  pub other_ends : IsTrue (is_end (position_of v) (stretch_of other.segment))
  pub no_third : (z : Piece)
      → Contains pieces z
      → IsTrue (is_end (position_of v) (stretch_of z.segment))
      → (z ≡ one) ⊎ (z ≡ other)
  pub opposite : direction_from v one.segment ≡ opposite_number (direction_from v other.segment)
  pub kind : one.kind ≡ other.kind
