-- A piece cut at points.
use Rattle.std.specs.Prelude.{◌≡◌, ◌⊎◌, List, [], ◌∷◌, ◌++◌, Option, None, Some, Contains, IsTrue}
use Rattle.std.specs.List.{filter}
use Rattle.std.specs.Bool.{IsFalse}
use Rattle.plane_geometry.specs.declared.Point.{Point}
use Rattle.plane_geometry.specs.declared.Segment.{Segment}
use Rattle.plane_geometry.specs.Position.{position_of}
use Rattle.plane_geometry.specs.SegmentOf.{segment_of}
use Rattle.plane_geometry.specs.SegmentView.{stretch_of, lesser_end, greater_end}
use Rattle.plane_geometry.specs.Stretch.{Stretch, is_between}
use Rattle.crease_model.specs.declared.Kind.{Kind}
use Rattle.crease_model.specs.declared.Piece.{Piece}

-- those strictly between the ends
abbrev pub inner_points : Stretch → List Point → List Point
inner_points s points = filter (λ v. is_between (position_of v) s) points

abbrev pub piece_on : Kind → Option Segment → List Piece
piece_on kind None = []
piece_on kind (Some s) = record { kind = kind; segment = s } ∷ []

-- from each point to the next, and from the last one to the end
abbrev pub pieces_between : Kind → Point → List Point → Point → List Piece
pieces_between kind start [] end = piece_on kind (segment_of start end)
pieces_between kind start (p ∷ ps) end = piece_on kind (segment_of start p) ++ pieces_between kind p ps end

-- the piece cut at those of the points that are strictly between its ends
unfoldable pub parts_of : Piece → List Point → List Piece
parts_of p points =
    pieces_between p.kind (lesser_end p.segment) (inner_points (stretch_of p.segment) points)
    (greater_end p.segment)

-- ---- the same by points

-- an end of the piece, or one of the points strictly between its ends
abbrev pub IsPartEnd : Piece → List Point → Point → Type 0
IsPartEnd p points v =
    (v ≡ lesser_end p.segment)
    ⊎ (v ≡ greater_end p.segment)
    ⊎ (Contains points v × IsTrue (is_between (position_of v) (stretch_of p.segment)))

-- a piece of its kind from one of these to the next
pub record IsPart (p : Piece) (points : List Point) (q : Piece) : Type 0 where
  pub kind : q.kind ≡ p.kind
  pub from : IsPartEnd p points (lesser_end q.segment)
  pub to : IsPartEnd p points (greater_end q.segment)
  pub none_between : (v : Point)
      → Contains points v
      → IsFalse (is_between (position_of v) (stretch_of q.segment))
