-- The faces of a folded shape, numbered from 1, and what they have in common.
use Rattle.std.specs.Prelude.{ℕ, zero, suc, Bool, ◌&&◌, ◌||◌, ◌==◌, List, Option, None, IsTrue}
use Rattle.std.specs.Option.{IsSomeAnd, option_map}
use Rattle.std.specs.List.{slice_get, list_any}
use Rattle.plane_geometry.specs.Position.{Position}
use Rattle.isometry_map.specs.declared.folded.FoldedFace.{FoldedFace}
use Rattle.isometry_map.specs.declared.folded.CreaseImage.{CreaseImage}
use Rattle.isometry_map.specs.Folded.{FoldedView}
pub use Rattle.wireframe_fold.specs.Inside.{is_inside_face}

-- the n-th, counted from 1
abbrev pub numbered : {X : Type 0} → List X → ℕ → Option X
numbered xs zero = None
numbered xs (suc n) = slice_get xs n

-- strictly inside the folded face of this number: just the images of the points that are strictly left of all sides
-- of the face, as the clause `inside` of `fold` and of `instance` says
abbrev pub IsInside : FoldedView → ℕ → Position → Type 0
IsInside shape f p = IsSomeAnd (numbered shape.faces f) (λ face. IsTrue (is_inside_face p face))

-- whether the face of this number is turned, if it is there
abbrev pub turned_at : List FoldedFace → ℕ → Option Bool
turned_at faces f = option_map (λ face. face.turned) (numbered faces f)

-- some point of the plane is strictly inside both folded faces
abbrev pub Overlap : FoldedView → ℕ → ℕ → Type 0
Overlap shape f g = (p : Position) × IsInside shape f p × IsInside shape g p

-- the faces on the sides of the crease are these two
abbrev pub is_shared_by : ℕ → ℕ → CreaseImage → Bool
is_shared_by f g c = (c.a == f && c.b == g) || (c.a == g && c.b == f)

-- some piece is shared by both faces
abbrev pub share_a_piece : FoldedView → ℕ → ℕ → Bool
share_a_piece shape f g = list_any (is_shared_by f g) shape.creases
