-- The faces on the sides of a piece, filled in face by face.
use Rattle.std.specs.Prelude.{ℕ, ◌+◌, nat_eq, Bool, ◌&&◌, List, [], ◌∷◌, map, if◌then◌else◌}
use Rattle.std.specs.Global.{Vec}
use Rattle.face_builder.specs.declared.half_edges.HalfEdge.{HalfEdge}
use Rattle.face_builder.specs.declared.shared.Sides.{Sides}
use Rattle.face_builder.specs.Shared.{is_forward, is_backward}

-- a number that is there already stays
abbrev pub first_number : ℕ → Bool → ℕ → ℕ
first_number before here face = if nat_eq before 0 && here then face else before

abbrev pub sides_with : ℕ → ℕ → HalfEdge → Sides → Sides
sides_with k face h s = record {
  left = first_number s.left (is_forward k h) face;
  right = first_number s.right (is_backward k h) face;
}

-- the sides of piece k once these half-edges of a face were seen
abbrev pub sides_along : ℕ → ℕ → List HalfEdge → Sides → Sides
sides_along k face [] s = s
sides_along k face (h ∷ hs) s = sides_along k face hs (sides_with k face h s)

-- once these faces were seen, the first of which has the number f
abbrev pub sides_among : ℕ → ℕ → List (List HalfEdge) → Sides → Sides
sides_among k f [] s = s
sides_among k f (face ∷ faces) s = sides_among k (f + 1) faces (sides_along k f face s)

-- the half-edges of each face
abbrev pub half_edges_of_each : List (Vec HalfEdge) → List (List HalfEdge)
half_edges_of_each faces = map (λ face. face.items) faces
