-- Which half-edge goes on from another, what a face is, and how faces part the half-edges: by what they are.
use Rattle.std.specs.Prelude.{◌≡◌, ℕ, ◌≤◌, List, [], ◌∷◌, Some, Contains, slice_get}
use Rattle.std.specs.List.{AllByRecursion}
use Rattle.plane_geometry.specs.DirView.{dir_number}
use Rattle.crease_model.specs.View.{PatternView}
use Rattle.face_builder.specs.declared.half_edges.HalfEdge.{HalfEdge}
use Rattle.face_builder.specs.Faces.{faces_of, next_half_edge}
use Rattle.face_builder.specs.Fan.{interior_angle}
use Rattle.face_builder.specs.HalfEdge.{half_edges_of}

-- the angle of a face that comes in by g and goes on by h
abbrev pub angle_between : HalfEdge → HalfEdge → ℕ
angle_between g h = interior_angle (dir_number g.dir) (dir_number h.dir)

-- g leaves where h ends, and it is the first one clockwise from the way back of h
pub record IsNext (hs : List HalfEdge) (h g : HalfEdge) : Type 0 where
  pub half_edge : Contains hs g
  pub joined : g.start ≡ h.end
  pub nearest : (e : HalfEdge) → Contains hs e → e.start ≡ h.end → angle_between h g ≤ angle_between h e

-- each goes on to the next of the list, and the last one to the first
abbrev pub IsClosedWalk : List HalfEdge → HalfEdge → HalfEdge → List HalfEdge → Type 0
IsClosedWalk hs first h [] = IsNext hs h first
IsClosedWalk hs first h (g ∷ gs) = IsNext hs h g × IsClosedWalk hs first g gs

-- a face: a closed walk of half-edges
abbrev pub IsRoundOf : List HalfEdge → List HalfEdge → Type 0
IsRoundOf hs face =
    (first : HalfEdge) × (others : List HalfEdge) × (face ≡ first ∷ others) × Contains hs first
    × IsClosedWalk hs first first others

-- the face in this place has the half-edge, and no other face has it
pub record IsInOneFace (faces : List (List HalfEdge)) (h : HalfEdge) : Type 0 where
  pub place : ℕ
  pub face : List HalfEdge
  pub stands : slice_get faces place ≡ Some face
  pub has : Contains face h
  pub only : (i : ℕ) (other : List HalfEdge) → slice_get faces i ≡ Some other → Contains other h → i ≡ place

-- closed walks, one for each half-edge; and next half-edges of different ones differ
pub record ArePartition (hs : List HalfEdge) (faces : List (List HalfEdge)) : Type 0 where
  pub rounds : AllByRecursion (IsRoundOf hs) faces
  pub once : (h : HalfEdge) → Contains hs h → IsInOneFace faces h
  pub permutation : (g h e : HalfEdge) → Contains hs g → Contains hs h → IsNext hs g e → IsNext hs h e → g ≡ h

-- which half-edge goes on from each of a pattern, and that its faces are closed walks which part them
pub record AreParted (p : PatternView) : Type 0 where
  pub next : (h : HalfEdge) → Contains (half_edges_of p) h
      → IsNext (half_edges_of p) h (next_half_edge (half_edges_of p) h)
  pub partition : ArePartition (half_edges_of p) (faces_of p)
