-- The order of the walk: each listed face, in order, appends the faces across its pieces that aren't listed
-- yet.
use Rattle.std.specs.Prelude.{◌≡◌, ℕ, ◌<◌, ◌⊎◌, List, [], Some, slice_get, IsTrue}
use Rattle.std.specs.Bool.{IsFalse}
use Rattle.crease_model.specs.View.{PatternView}
use Rattle.face_builder.specs.declared.half_edges.HalfEdge.{HalfEdge}
use Rattle.face_builder.specs.declared.shared.SharedPiece.{SharedPiece}
use Rattle.face_builder.specs.declared.walk.Step.{Step}
use Rattle.face_builder.specs.Faces.{faces_of, walk_among}
use Rattle.face_builder.specs.MapRules.{AllAfter}
use Rattle.face_builder.specs.Shared.{shared_from}
use Rattle.face_builder.specs.Walk.{is_reached, face_across, face_half_edges, walked_face}

-- place (i, j) comes before place (k, l)
abbrev pub IsEarlier : ℕ → ℕ → ℕ → ℕ → Type 0
IsEarlier i j k l = (i < k) ⊎ ((i ≡ k) × (j < l))

-- of the i-th face that these steps list the j-th half-edge, counterclockwise from its least corner, is of a
-- piece, and step s leads across it
abbrev pub LeadsFrom : List (List HalfEdge) → List SharedPiece → List Step → ℕ → ℕ → Step → Type 0
LeadsFrom faces shared listed i j s =
    (h : HalfEdge) × (walked_face listed i ≡ Some s.from) × (slice_get (face_half_edges faces s.from) j ≡ Some h)
    × (h.piece ≡ Some s.piece) × (s.face ≡ face_across shared s.piece s.from)

-- of all places from which a step leads to a face that isn't listed yet, step s leads from the first one
pub record IsNextStep (faces : List (List HalfEdge)) (shared : List SharedPiece) (listed : List Step) (s : Step)
    : Type 0 where
  pub i : ℕ
  pub j : ℕ
  pub leads : LeadsFrom faces shared listed i j s
  pub new : IsFalse (is_reached listed s.face)
  pub first : (k l : ℕ) (t : Step) → LeadsFrom faces shared listed k l t → IsEarlier k l i j
      → IsTrue (is_reached listed t.face)

-- each step is the next one after those before it, and in the end no step leads to a face that isn't listed
pub record IsWalkOver (faces : List (List HalfEdge)) (shared : List SharedPiece) (walk : List Step) : Type 0 where
  pub in_order : AllAfter (IsNextStep faces shared) [] walk
  pub whole : (i j : ℕ) (s : Step) → LeadsFrom faces shared walk i j s → IsTrue (is_reached walk s.face)

-- the walk over the faces of the pattern is such a one
abbrev pub IsWalkOf : PatternView → Type 0
IsWalkOf p =
    IsWalkOver (faces_of p) (shared_from (faces_of p) 1 p.pieces) (walk_among (faces_of p) p.pieces)
