-- What each map of faces keeps.
use Rattle.std.specs.Prelude.{◌≡◌, ℕ, ◌+◌, ◌≤◌, ◌<◌, ◌⊎◌, ⊤, List, [], ◌∷◌, ◌++◌, length, take, Some, slice_get, Contains, IsTrue}
use Rattle.std.specs.Bool.{IsFalse}
use Rattle.std.specs.List.{AllByRecursion, list_all, flat_map}
use Rattle.std.specs.List.Sorted.{IsStrictlySortedBy}
use Rattle.std.specs.Ordering.{ordering_then, nat_cmp}
use Rattle.std.specs.declared.cmp.Ordering.{Ordering}
use Rattle.plane_geometry.specs.declared.Point.{Point}
use Rattle.plane_geometry.specs.Polygon.{Side, sides_of, side_number, is_convex}
use Rattle.plane_geometry.specs.SegmentView.{lesser_end, greater_end}
use Rattle.crease_model.specs.Rules.{most_pieces}
use Rattle.crease_model.specs.Sheet.{is_least_first}
use Rattle.face_builder.specs.declared.shared.SharedPiece.{SharedPiece}
use Rattle.face_builder.specs.declared.walk.Step.{Step}
use Rattle.face_builder.specs.Faces.{most_faces}
use Rattle.plane_geometry.specs.Position.{compare_points}
use Rattle.face_builder.specs.View.{FaceMapView, corners_at}
use Rattle.face_builder.specs.Walk.{is_reached}

-- from p to q goes a side of the face of this number
abbrev pub IsSideOf : List (List Point) → ℕ → Point → Point → Type 0
IsSideOf faces face p q =
    (corners : List Point) × (corners_at faces face ≡ Some corners)
    × Contains (sides_of corners) (record { start = p; end = q })

-- face f has the piece as a side from its lesser end to its greater one, and face g has it back
abbrev pub IsBetween : List (List Point) → SharedPiece → ℕ → ℕ → Type 0
IsBetween faces s f g =
    IsSideOf faces f (lesser_end s.segment) (greater_end s.segment)
    × IsSideOf faces g (greater_end s.segment) (lesser_end s.segment)

-- a piece lies between two different faces, the lesser number first
pub record IsShared (faces : List (List Point)) (s : SharedPiece) : Type 0 where
  pub first : 1 ≤ s.a
  pub order : s.a < s.b
  pub last : s.b ≤ length faces
  pub sides : IsBetween faces s s.a s.b ⊎ IsBetween faces s s.b s.a

-- the piece lies between the one face and the other
abbrev pub AreAcross : SharedPiece → ℕ → ℕ → Type 0
AreAcross s f g = ((s.a ≡ f) × (s.b ≡ g)) ⊎ ((s.a ≡ g) × (s.b ≡ f))

-- a step goes from a face that was reached across a piece to one that was not
pub record IsStep (shared : List SharedPiece) (before : List Step) (s : Step) : Type 0 where
  pub from : IsTrue (is_reached before s.from)
  pub new : IsFalse (is_reached before s.face)
  pub across : (x : SharedPiece) × Contains shared x × (x.piece ≡ s.piece) × AreAcross x s.from s.face

-- each step stands in the relation to the list of those before it
abbrev pub AllAfter : (List Step → Step → Type 0) → List Step → List Step → Type 0
AllAfter Follows before [] = ⊤
AllAfter Follows before (s ∷ steps) = Follows before s × AllAfter Follows (before ++ s ∷ []) steps

-- each step goes so
abbrev pub IsWalk : List SharedPiece → List Step → List Step → Type 0
IsWalk shared before steps = AllAfter (IsStep shared) before steps

-- the shared pieces are numbered by their places, from 1
abbrev pub AreNumbered : List SharedPiece → Type 0
AreNumbered shared = (k : ℕ) (s : SharedPiece) → slice_get shared k ≡ Some s → s.piece ≡ k + 1

-- sides in order: by start, then by direction
abbrev pub compare_sides : Side → Side → Ordering
compare_sides s t = ordering_then (compare_points s.start t.start) (nat_cmp (side_number s) (side_number t))

-- of each face the side that leaves its first corner
abbrev pub first_sides : List (List Point) → List Side
first_sides faces = flat_map (λ corners. take 1 (sides_of corners)) faces

-- more corners than a face can have: its half-edges are different ones of a pattern, and 2,000 pieces and 16
-- sides have fewer
abbrev pub most_corners : ℕ
most_corners = 131072

-- few faces, each of them convex and of few corners, from the least one on; they ascend by this corner, then
-- by the direction of the side that leaves it; few pieces, each between two of them; a walk of fewer steps than
-- faces may be, that reaches all of them
pub record AreFaces (m : FaceMapView) : Type 0 where
  pub few : length m.faces ≤ most_faces
  pub corners : AllByRecursion (λ corners. length corners ≤ most_corners) m.faces
  pub convex : IsTrue (list_all is_convex m.faces)
  pub least : IsTrue (list_all is_least_first m.faces)
  pub ascending : IsStrictlySortedBy compare_sides (first_sides m.faces)
  pub shared : AllByRecursion (IsShared m.faces) m.shared
  pub numbered : AreNumbered m.shared
  pub pieces : length m.shared ≤ most_pieces
  pub walk : IsWalk m.shared [] m.walk
  pub short : length m.walk < most_faces
  pub reached : (f : ℕ) → 1 ≤ f → f ≤ length m.faces → IsTrue (is_reached m.walk f)
