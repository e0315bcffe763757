-- There is at most one folding, and the isometries along the walk are it; and at most one shape.
use Rattle.std.specs.Prelude.{◌≡◌, ℕ, ◌≤◌, List, length}
use Rattle.isometry_map.specs.Folded.{FoldedView}
use Rattle.isometry_map.specs.Motion.{Motion, IsSameMap}
use Rattle.face_builder.specs.MapRules.{AreFaces}
use Rattle.face_builder.specs.View.{FaceMapView}
use Rattle.wireframe_fold.specs.Fold.{IsShape}
use Rattle.wireframe_fold.specs.Folding.{motion_at, AreAlongWalk, IsFolding}

-- both move each face alike
abbrev pub MoveAlike : FaceMapView → List Motion → List Motion → Type 0
MoveAlike m ts us = (f : ℕ) → 1 ≤ f → f ≤ length m.faces → IsSameMap (motion_at ts f) (motion_at us f)

abbrev pub FoldingIsOne : Type 0
FoldingIsOne =
    (m : FaceMapView) (ts us : List Motion) → AreFaces m → IsFolding m ts → IsFolding m us → MoveAlike m ts us

-- where there is a folding, the isometries along the walk move each face as it does
abbrev pub FoldingIsAlongWalk : Type 0
FoldingIsAlongWalk =
    (m : FaceMapView) (ts us : List Motion)
    → AreFaces m → AreAlongWalk m ts → IsFolding m us → MoveAlike m ts us

abbrev pub ShapeIsOne : Type 0
ShapeIsOne = (m : FaceMapView) (f g : FoldedView) → AreFaces m → IsShape m f → IsShape m g → f ≡ g
