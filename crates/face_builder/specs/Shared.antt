-- Which faces are on the two sides of a piece. A face is the list of its half-edges.
use Rattle.std.specs.Prelude.{ℕ, ◌+◌, nat_eq, Bool, false, ◌&&◌, not, List, [], ◌∷◌, Option, None, Some, min, max, if◌then◌else◌}
use Rattle.std.specs.List.{list_any}
use Rattle.std.specs.Ordering.{is_lt}
use Rattle.crease_model.specs.declared.Piece.{Piece}
use Rattle.plane_geometry.specs.Position.{compare_points}
use Rattle.face_builder.specs.declared.half_edges.HalfEdge.{HalfEdge}
use Rattle.face_builder.specs.declared.shared.SharedPiece.{SharedPiece}

abbrev pub is_of_piece : ℕ → HalfEdge → Bool
is_of_piece k h = is_number k h.piece
  where
    is_number : ℕ → Option ℕ → Bool
    is_number k None = false
    is_number k (Some n) = nat_eq n k

-- it goes from its lesser end to its greater one
abbrev pub is_upward : HalfEdge → Bool
is_upward h = is_lt (compare_points h.start h.end)

-- the piece of this number from its lesser end to its greater one, and back
abbrev pub is_forward : ℕ → HalfEdge → Bool
is_forward k h = is_of_piece k h && is_upward h

abbrev pub is_backward : ℕ → HalfEdge → Bool
is_backward k h = is_of_piece k h && not (is_upward h)

-- the number of the first face with such a half-edge, where the first face asked has the number f; 0 where
-- there is none
abbrev pub face_with_from : ℕ → (HalfEdge → Bool) → List (List HalfEdge) → ℕ
face_with_from f test [] = 0
face_with_from f test (face ∷ faces) = if list_any test face then f else face_with_from (f + 1) test faces

-- the number of the face on the left of the piece, seen from its lesser end, and of that on its right
unfoldable pub left_face : List (List HalfEdge) → ℕ → ℕ
left_face faces k = face_with_from 1 (is_forward k) faces

unfoldable pub right_face : List (List HalfEdge) → ℕ → ℕ
right_face faces k = face_with_from 1 (is_backward k) faces

-- a piece with the faces on its sides, the lesser number first
abbrev pub shared_piece : List (List HalfEdge) → ℕ → Piece → SharedPiece
shared_piece faces k p = record {
  piece = k;
  a = min (left_face faces k) (right_face faces k);
  b = max (left_face faces k) (right_face faces k);
  segment = p.segment;
}

-- the first of these pieces has the number k
abbrev pub shared_from : List (List HalfEdge) → ℕ → List Piece → List SharedPiece
shared_from faces k [] = []
shared_from faces k (p ∷ ps) = shared_piece faces k p ∷ shared_from faces (k + 1) ps
