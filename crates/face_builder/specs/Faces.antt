-- The numbered faces of a pattern, or why it has none. A face is the list of its half-edges, from the least
-- one on.
use Rattle.std.specs.Prelude.{◌≡◌, ◌≢◌, ◌≤◌, ◌<◌, ℕ, Bool, not, List, [], ◌∷◌, length, map, find, nat_lt, nat_eq, Option, None, Some, Err, slice_get, slice_index_or, ⊤, if◌then◌else◌}
use Rattle.std.specs.List.{flat_map, sum}
use Rattle.std.specs.Option.{option_map, option_or}
use Rattle.std.specs.declared.result.Result.{Result}
use Rattle.plane_geometry.specs.declared.Point.{Point}
use Rattle.plane_geometry.specs.declared.Dir.{Dir}
use Rattle.plane_geometry.specs.DirView.{dir_number}
use Rattle.plane_geometry.specs.Polygon.{turn_of, turns_of, is_convex_turn}
use Rattle.crease_model.specs.View.{PatternView}
use Rattle.crease_model.specs.declared.Piece.{Piece}
use Rattle.face_builder.specs.declared.half_edges.HalfEdge.{HalfEdge}
use Rattle.face_builder.specs.declared.faults.FaceFault.{FaceFault}
use Rattle.face_builder.specs.declared.faults.FaceFault.TheVariants.{NotConvex, TooManyFaces, Unreached, Memory}
use Rattle.face_builder.specs.declared.walk.Step.{Step}
use Rattle.face_builder.specs.View.{FaceMapView}
use Rattle.face_builder.specs.HalfEdge.{half_edges_of}
use Rattle.face_builder.specs.Fan.{next_place, nexts_of}
use Rattle.face_builder.specs.Cycle.{cycle_from, leaders_from}
use Rattle.face_builder.specs.Shared.{shared_from}
use Rattle.face_builder.specs.Walk.{walk_of, first_unreached}

-- ---- the faces among half-edges

-- the half-edge in this place, if there is one
abbrev pub half_edge_in : Option HalfEdge → List HalfEdge
half_edge_in None = []
half_edge_in (Some h) = h ∷ []

-- the half-edges in these places
abbrev pub half_edges_at : List HalfEdge → List ℕ → List HalfEdge
half_edges_at hs places = flat_map (λ i. half_edge_in (slice_get hs i)) places

-- the face that the half-edge in place i leads
abbrev pub led_face : List HalfEdge → List ℕ → ℕ → List HalfEdge
led_face hs nexts i = half_edges_at hs (cycle_from nexts i)

abbrev pub led_faces : List HalfEdge → List ℕ → List (List HalfEdge)
led_faces hs nexts = map (led_face hs nexts) (leaders_from nexts 0 nexts)

-- the faces, by their least half-edges
unfoldable pub faces_among : List HalfEdge → List (List HalfEdge)
faces_among hs = led_faces hs (nexts_of hs)

abbrev pub corners_of : List HalfEdge → List Point
corners_of face = map (λ h. h.start) face

-- ---- why there are none

pub data FaceRefusal : Type 0 where
  not_convex : Point → Dir → FaceRefusal
  too_many : ℕ → FaceRefusal
  unreached : ℕ → FaceRefusal

-- between the directions of two half-edges the turn is not 0 to 7 steps to the left
abbrev pub turns_off : HalfEdge → HalfEdge → Bool
turns_off g h = not (is_convex_turn (turn_of (dir_number g.dir) (dir_number h.dir)))

abbrev pub next_half_edge : List HalfEdge → HalfEdge → HalfEdge
next_half_edge hs h = slice_index_or hs (next_place hs h) h

-- its face turns off after it
abbrev pub is_reflex : List HalfEdge → HalfEdge → Bool
is_reflex hs h = turns_off h (next_half_edge hs h)

abbrev pub directions_round : List HalfEdge → List ℕ
directions_round face = map (λ h. dir_number h.dir) face

-- the turns of the face don't add to 16 steps
abbrev pub is_twisted : List HalfEdge → Bool
is_twisted face = not (nat_eq (sum (turns_of (directions_round face))) 16)

abbrev pub first_of : Option (List HalfEdge) → Option HalfEdge
first_of None = None
first_of (Some []) = None
first_of (Some (h ∷ hs)) = Some h

-- the least half-edge after which its face turns off; where there is none, the least one of a twisted face
abbrev pub bad_half_edge : List HalfEdge → Option HalfEdge
bad_half_edge hs = option_or (find (is_reflex hs) hs) (first_of (find is_twisted (faces_among hs)))

abbrev pub convex_refusal : List HalfEdge → Option FaceRefusal
convex_refusal hs = option_map (λ h. not_convex h.start h.dir) (bad_half_edge hs)

-- a pattern has at most so many faces
abbrev pub most_faces : ℕ
most_faces = 256

abbrev pub count_refusal : ℕ → Option FaceRefusal
count_refusal count = if nat_lt most_faces count then Some (too_many count) else None

abbrev pub reach_refusal : List Step → ℕ → Option FaceRefusal
reach_refusal walk count = option_map unreached (first_unreached walk 1 count)

-- ---- the faces of a pattern

abbrev pub faces_of : PatternView → List (List HalfEdge)
faces_of p = faces_among (half_edges_of p)

abbrev pub walk_among : List (List HalfEdge) → List Piece → List Step
walk_among faces pieces = walk_of (shared_from faces 1 pieces) faces

abbrev pub map_among : List (List HalfEdge) → List Piece → FaceMapView
map_among faces pieces =
    record {
      faces = map corners_of faces;
      shared = shared_from faces 1 pieces;
      walk = walk_among faces pieces;
    }

-- there are too many, or one is not reached
abbrev pub size_refusal : List (List HalfEdge) → List Piece → Option FaceRefusal
size_refusal faces pieces =
    option_or (count_refusal (length faces)) (reach_refusal (walk_among faces pieces) (length faces))

unfoldable pub face_map_of : PatternView → FaceMapView
face_map_of p = map_among (faces_of p) p.pieces

-- the first refusal, in this order
unfoldable pub face_refusal : PatternView → Option FaceRefusal
face_refusal p =
    option_or (convex_refusal (half_edges_of p)) (size_refusal (faces_of p) p.pieces)

-- ---- causes

-- the least half-edge at which a face is not convex leaves this point in this direction
abbrev pub IsNotConvexAt : PatternView → Point → Dir → Type 0
IsNotConvexAt p at direction =
    (h : HalfEdge) × (bad_half_edge (half_edges_of p) ≡ Some h) × (h.start ≡ at) × (h.dir ≡ direction)

-- each face is convex, and there are too many
abbrev pub AreTooMany : PatternView → ℕ → Type 0
AreTooMany p count =
    (bad_half_edge (half_edges_of p) ≡ None)
    × (count ≡ length (faces_of p)) × (most_faces < count)

-- each face is convex, they are not too many, and this is the least one that the walk does not reach
abbrev pub IsUnreached : PatternView → ℕ → Type 0
IsUnreached p face =
    (bad_half_edge (half_edges_of p) ≡ None)
    × (length (faces_of p) ≤ most_faces)
    × (first_unreached (walk_among (faces_of p) p.pieces) 1 (length (faces_of p)) ≡ Some face)

-- ---- answers

-- memory did not run out
abbrev pub HasMemory : Result FaceMapView FaceFault → Type 0
HasMemory result = result ≢ Err Memory

-- the map that was made is the pattern's, and there is no refusal
abbrev pub IsFaceMap : FaceMapView → PatternView → Type 0
IsFaceMap m p = (face_refusal p ≡ None) × (m ≡ face_map_of p)

-- a fault is the refusal, or want of memory
abbrev pub IsFaceFault : FaceFault → Option FaceRefusal → Type 0
IsFaceFault (NotConvex at direction) refusal = refusal ≡ Some (not_convex at direction)
IsFaceFault (TooManyFaces faces) refusal = refusal ≡ Some (too_many faces)
IsFaceFault (Unreached face) refusal = refusal ≡ Some (unreached face)
IsFaceFault Memory refusal = ⊤
