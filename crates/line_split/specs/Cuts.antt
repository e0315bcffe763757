-- Where a segment is cut by pieces: at its ends, at their ends on it, and where it meets a piece of another
-- direction.
use Rattle.std.specs.Prelude.{◌≡◌, ℕ, ◌+◌, Bool, ◌&&◌, ◌||◌, not, List, [], ◌∷◌, ◌++◌, length, Option, None}
use Rattle.std.specs.Prelude.{Some, Ok, Err, Contains, IsTrue, if◌then◌else◌}
use Rattle.std.specs.List.{list_any, filter}
use Rattle.std.specs.Bool.{IsFalse}
use Rattle.std.specs.declared.result.Result.{Result}
use Rattle.plane_geometry.specs.declared.Point.{Point}
use Rattle.plane_geometry.specs.declared.Segment.{Segment}
use Rattle.plane_geometry.specs.Position.{Position, position_of}
use Rattle.plane_geometry.specs.SegmentView.{stretch_of, lesser_end, greater_end}
use Rattle.plane_geometry.specs.Stretch.{Stretch, is_end, is_on, is_touching, ShareAPoint}
use Rattle.plane_geometry.specs.Common.{is_parallel, common_of}
use Rattle.crease_model.specs.declared.Piece.{Piece}
use Rattle.line_split.specs.Points.{with_point}

-- ---- which points

-- a point of both, where they have different directions
abbrev pub is_meeting_point : Position → Stretch → Stretch → Bool
is_meeting_point v s u = (is_on v s && is_on v u) && not (is_parallel s u)

-- a point of s that is an end of it, or of a piece, or a point of a piece of another direction
abbrev pub is_cut : List Piece → Stretch → Position → Bool
is_cut pieces s v =
    is_on v s
    && (is_end v s
    || list_any (λ p. is_end v (stretch_of p.segment) || is_meeting_point v s (stretch_of p.segment)) pieces)

-- ---- which pieces

abbrev pub is_touched : Stretch → Piece → Bool
is_touched s p = is_touching s (stretch_of p.segment)

-- the pieces that s touches, and the others
abbrev pub touched : Stretch → List Piece → List Piece
touched s pieces = filter (is_touched s) pieces

abbrev pub untouched : Stretch → List Piece → List Piece
untouched s pieces = filter (λ p. not (is_touched s p)) pieces

-- ---- the points as a list

-- with the point if it is on the stretch
abbrev pub with_point_on : Stretch → List Point → Point → List Point
with_point_on s points v = if is_on (position_of v) s then with_point points v else points

-- with the ends of u that are on s
abbrev pub with_ends : Stretch → List Point → Segment → List Point
with_ends s points u = with_point_on s (with_point_on s points (lesser_end u)) (greater_end u)

-- they have different directions and a point in common
abbrev pub is_meeting : Stretch → Stretch → Bool
is_meeting s u = not (is_parallel s u) && is_touching s u

abbrev pub with_common : List Point → Option Point → Option (List Point)
with_common points None = None
with_common points (Some v) = Some (with_point points v)

-- with the common point, where they meet; None where it is not of two Surds
abbrev pub with_meeting : Stretch → List Point → Stretch → Option (List Point)
with_meeting s points u = if is_meeting s u then with_common points (common_of s u) else Some points

abbrev pub with_piece_cuts : Stretch → List Point → Segment → Option (List Point)
with_piece_cuts s points u = with_meeting s (with_ends s points u) (stretch_of u)

abbrev pub points_or : ℕ → Option (List Point) → (List Point → Result (List Point) ℕ) → Result (List Point) ℕ
points_or n None rest = Err n
points_or n (Some points) rest = rest points

-- the points found with those at each of these pieces, the first of which has the number n; or the number of
-- the first piece whose common point with s is not of two Surds
abbrev pub cuts_from : Stretch → ℕ → List Piece → List Point → Result (List Point) ℕ
cuts_from s n [] points = Ok points
cuts_from s n (p ∷ ps) points = points_or n (with_piece_cuts s points p.segment) (cuts_from s (n + 1) ps)

-- the points where s is cut, ascending; or the number of the first piece whose common point is not of two
-- Surds, from 1
unfoldable pub cuts_of : Segment → List Piece → Result (List Point) ℕ
cuts_of s pieces = cuts_from (stretch_of s) 1 pieces (lesser_end s ∷ greater_end s ∷ [])

-- ---- the same by points

-- the segments have different directions and a point in common, but no point of two Surds
pub record MeetsOutOfRange (s u : Stretch) : Type 0 where
  pub turned : IsFalse (is_parallel s u)
  pub shared : ShareAPoint s u
  pub none : (p : Point) → IsTrue (is_on (position_of p) s) → ¬ IsTrue (is_on (position_of p) u)

-- the piece of this number, from 1, is the first that s meets so
pub record IsFirstOutOfRange (s : Stretch) (pieces : List Piece) (number : ℕ) : Type 0 where
  pub earlier : List Piece
  pub piece : Piece
  pub later : List Piece
  pub split : pieces ≡ earlier ++ piece ∷ later
  pub number_is : number ≡ length earlier + 1
  pub meets : MeetsOutOfRange s (stretch_of piece.segment)
  pub first : (p : Piece) → Contains earlier p → ¬ MeetsOutOfRange s (stretch_of p.segment)
