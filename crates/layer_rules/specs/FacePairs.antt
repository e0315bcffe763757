-- Pairs of faces of which one has to be above the other, and the list of them all.
use Rattle.std.specs.Prelude.{◌≡◌, ℕ, ◌<◌, ◌≤◌, ◌⊎◌, ◌↔◌, List, length, IsTrue}
use Rattle.std.specs.List.{AllPairs, Contains}
use Rattle.isometry_map.specs.Folded.{FoldedView}
use Rattle.layer_rules.specs.declared.face_pairs.FacePair.{FacePair}
use Rattle.layer_rules.specs.Faces.{Overlap, share_a_piece}

-- the two are faces i < j, and some point is strictly inside both when folded, or they share a piece
pub record IsFacePair (shape : FoldedView) (pair : FacePair) : Type 0 where
  pub first : 1 ≤ pair.i
  pub ascending : pair.i < pair.j
  pub last : pair.j ≤ length shape.faces
  pub meets : Overlap shape pair.i pair.j ⊎ IsTrue (share_a_piece shape pair.i pair.j)

-- by the first face, then by the second
abbrev pub Precedes : FacePair → FacePair → Type 0
Precedes p q = (p.i < q.i) ⊎ ((p.i ≡ q.i) × (p.j < q.j))

-- just the pairs of the shape, each once, in order
pub record IsPairList (shape : FoldedView) (pairs : List FacePair) : Type 0 where
  pub ascending : AllPairs Precedes pairs
  pub complete : (pair : FacePair) → Contains pairs pair ↔ IsFacePair shape pair

abbrev pub HasPairCount : FoldedView → ℕ → Type 0
HasPairCount shape n = (pairs : List FacePair) × IsPairList shape pairs × (length pairs ≡ n)

-- f and g are a pair of the shape, whichever is the lesser
abbrev pub ArePair : FoldedView → ℕ → ℕ → Type 0
ArePair shape f g = IsFacePair shape (record { i = f; j = g }) ⊎ IsFacePair shape (record { i = g; j = f })

abbrev pub most_pairs : ℕ
most_pairs = 8192

-- so many faces have fewer than 2^31 pairs
abbrev pub most_folded_faces : ℕ
most_folded_faces = 65536
