-- The rules of a crease pattern.
use Rattle.std.specs.Prelude.{◌≡◌, ◌⊎◌, ℕ, ◌+◌, ◌≤◌, Bool, true, false, ◌&&◌, not, List, [], ◌∷◌, length, map, IsTrue, ⊤}
use Rattle.std.specs.List.{AllByRecursion}
use Rattle.plane_geometry.specs.declared.Point.{Point}
use Rattle.plane_geometry.specs.declared.Segment.{Segment}
use Rattle.plane_geometry.specs.Order.{is_before}
use Rattle.plane_geometry.specs.Stretch.{Stretch, MeetAtEnds}
use Rattle.plane_geometry.specs.SegmentView.{stretch_of, lesser_end, greater_end}
use Rattle.crease_model.specs.declared.Kind.{Kind}
use Rattle.crease_model.specs.declared.Kind.TheVariants.{Edge, Mountain, Valley, Aux, Unassigned}
use Rattle.crease_model.specs.declared.Piece.{Piece}
use Rattle.crease_model.specs.Sheet.{place_of, is_outside, is_within_side}
use Rattle.crease_model.specs.View.{PatternView}

-- a mountain, a valley or an unassigned crease
abbrev pub is_crease_kind : Kind → Bool
is_crease_kind Edge = false
is_crease_kind Mountain = true
is_crease_kind Valley = true
is_crease_kind Aux = false
is_crease_kind Unassigned = true

-- no end is outside the sheet
abbrev pub is_on_sheet : List Point → Stretch → Bool
is_on_sheet corners s = not (is_outside (place_of corners s.from)) && not (is_outside (place_of corners s.to))

-- a crease with no end outside, and not within one side
abbrev pub is_crease : List Point → Piece → Bool
is_crease corners p =
    is_crease_kind p.kind
    && (is_on_sheet corners (stretch_of p.segment) && not (is_within_side corners (stretch_of p.segment)))

-- v is an end of the piece
abbrev pub IsEndOf : Piece → Point → Type 0
IsEndOf p v = (lesser_end p.segment ≡ v) ⊎ (greater_end p.segment ≡ v)

-- each two pieces meet at ends alone
abbrev pub AllMeetAtEnds : List Piece → Type 0
AllMeetAtEnds [] = ⊤
AllMeetAtEnds (p ∷ ps) =
    AllByRecursion (λ q. MeetAtEnds (stretch_of p.segment) (stretch_of q.segment)) ps × AllMeetAtEnds ps

-- each segment stands before the next, by the lesser end and then by the greater
abbrev pub is_ascending : List Segment → Bool
is_ascending [] = true
is_ascending (s ∷ []) = true
is_ascending (s ∷ u ∷ us) = is_before s u && is_ascending (u ∷ us)

abbrev pub segments_of : List Piece → List Segment
segments_of pieces = map (λ p. p.segment) pieces

abbrev pub size_of : PatternView → ℕ
size_of p = length p.pieces + length p.aux

-- a pattern has at most so many pieces and auxiliary lines
abbrev pub most_pieces : ℕ
most_pieces = 2000

pub record IsPattern (p : PatternView) : Type 0 where
  pub creases : AllByRecursion (λ q. IsTrue (is_crease p.corners q)) p.pieces
  pub meetings : AllMeetAtEnds p.pieces
  pub lines : AllByRecursion (λ s. IsTrue (is_on_sheet p.corners (stretch_of s))) p.aux
  pub size : size_of p ≤ most_pieces
  pub order : IsTrue (is_ascending (segments_of p.pieces)) × IsTrue (is_ascending p.aux)
