-- The walk over faces: from face 1, each face reached leads to those across its pieces that were not reached
-- before.
use Rattle.std.specs.Prelude.{ℕ, zero, suc, ◌+◌, ◌-◌, nat_eq, Bool, ◌||◌, List, [], ◌∷◌, ◌++◌, Option, None, Some, slice_get, slice_index_or, if◌then◌else◌}
use Rattle.std.specs.Option.{option_map}
use Rattle.std.specs.List.{list_any}
use Rattle.face_builder.specs.declared.half_edges.HalfEdge.{HalfEdge}
use Rattle.face_builder.specs.declared.shared.SharedPiece.{SharedPiece}
use Rattle.face_builder.specs.declared.walk.Step.{Step}

abbrev pub has_step_to : List Step → ℕ → Bool
has_step_to steps face = list_any (λ s. nat_eq s.face face) steps

-- face 1 is where the walk begins
abbrev pub is_reached : List Step → ℕ → Bool
is_reached steps face = nat_eq face 1 || has_step_to steps face

-- the face on the other side of a piece
abbrev pub other_face : SharedPiece → ℕ → ℕ
other_face s face = if nat_eq s.a face then s.b else s.a

abbrev pub other_side : Option SharedPiece → ℕ → ℕ
other_side None face = face
other_side (Some s) face = other_face s face

abbrev pub face_across : List SharedPiece → ℕ → ℕ → ℕ
face_across shared piece face = other_side (slice_get shared (piece - 1)) face

-- the steps with the one across this piece, if the face there was not reached before
abbrev pub with_step : List Step → Step → List Step
with_step steps s = if is_reached steps s.face then steps else steps ++ s ∷ []

abbrev pub with_side : List SharedPiece → ℕ → List Step → Option ℕ → List Step
with_side shared from steps None = steps
with_side shared from steps (Some k) =
    with_step steps (record { face = face_across shared k from; from = from; piece = k })

-- the steps with those from one face, along its half-edges
abbrev pub with_neighbours : List SharedPiece → ℕ → List Step → List HalfEdge → List Step
with_neighbours shared from steps [] = steps
with_neighbours shared from steps (h ∷ hs) =
    with_neighbours shared from (with_side shared from steps h.piece) hs

abbrev pub face_half_edges : List (List HalfEdge) → ℕ → List HalfEdge
face_half_edges faces f = slice_index_or faces (f - 1) []

-- the i-th face of the walk, from 0: face 1, then those of the steps
abbrev pub walked_face : List Step → ℕ → Option ℕ
walked_face steps zero = Some 1
walked_face steps (suc i) = option_map (λ s. s.face) (slice_get steps i)

abbrev pub walked_or : Option ℕ → List Step → (ℕ → List Step) → List Step
walked_or None steps rest = steps
walked_or (Some face) steps rest = rest face

-- the walk from its i-th face on; each of the faces of the last list allows one turn
abbrev pub walk_from : List SharedPiece → List (List HalfEdge) → ℕ → List (List HalfEdge) → List Step
    → List Step
walk_from shared faces i [] steps = steps
walk_from shared faces i (_ ∷ turns) steps =
    walked_or (walked_face steps i) steps
    (λ face. walk_from shared faces (i + 1) turns
    (with_neighbours shared face steps (face_half_edges faces face)))

unfoldable pub walk_of : List SharedPiece → List (List HalfEdge) → List Step
walk_of shared faces = walk_from shared faces 0 faces []

-- the least face that is not reached, of so many from the face f on
abbrev pub first_unreached : List Step → ℕ → ℕ → Option ℕ
first_unreached steps f zero = None
first_unreached steps f (suc n) = if is_reached steps f then first_unreached steps (f + 1) n else Some f
