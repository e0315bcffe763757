-- The layers of a pattern: its folded shape, its pairs of faces, and the rules on their signs; or why it has none.
use Rattle.std.specs.Prelude.{◌≡◌, ◌≢◌, ℕ, ◌<◌, ◌≤◌, List, length, map, Err, ⊤}
use Rattle.std.specs.declared.result.Result.{Result}
use Rattle.crease_model.specs.declared.Kind.{Kind}
use Rattle.crease_model.specs.declared.Piece.{Piece}
use Rattle.crease_model.specs.View.{PatternView}
use Rattle.isometry_map.specs.Folded.{FoldedView}
use Rattle.face_builder.specs.declared.faults.FaceFault.{FaceFault}
use Rattle.face_builder.specs.declared.faults.FaceFault.TheVariants as face
use Rattle.face_builder.specs.View.{FaceMapView}
use Rattle.face_builder.specs.Faces.{IsFaceMap, IsNotConvexAt, AreTooMany, IsUnreached}
use Rattle.wireframe_fold.specs.declared.faults.WireFault.{WireFault}
use Rattle.wireframe_fold.specs.declared.faults.WireFault.TheVariants as wire
use Rattle.wireframe_fold.specs.Inside.{KeepsInsides}
use Rattle.wireframe_fold.specs.Fold.{IsShape, IsOpenAt, IsOutAt, AreTooManyLines}
use Rattle.sign_rules.specs.Rules.{RulesView}
use Rattle.layer_rules.specs.declared.face_pairs.FacePair.{FacePair}
use Rattle.layer_rules.specs.declared.face_pairs.PairsFault.{PairsFault}
use Rattle.layer_rules.specs.declared.face_pairs.PairsFault.TheVariants as pairs
use Rattle.layer_rules.specs.declared.layering.InstanceFault.{InstanceFault}
use Rattle.layer_rules.specs.declared.layering.InstanceFault.TheVariants.{NotConvex, TooManyFaces, Unreached, DoesNotClose, FoldRange, TooManyLines, TooManyPairs, Memory}
use Rattle.layer_rules.specs.FacePairs.{IsPairList, HasPairCount, most_pairs}

pub record LayeringView : Type 0 where
  pub shape : FoldedView
  pub pairs : List FacePair
  pub rules : RulesView

-- the kinds of pieces, by their numbers
abbrev pub kinds_of : List Piece → List Kind
kinds_of pieces = map (λ p. p.kind) pieces

-- the faces of the pattern
abbrev pub HasFaces : PatternView → (FaceMapView → Type 0) → Type 0
HasFaces p Is = (m : FaceMapView) × IsFaceMap m p × Is m

-- what is strictly inside its folded faces are the images of the points strictly left of all sides of its faces
abbrev pub KeepsInsidesOf : PatternView → FoldedView → Type 0
KeepsInsidesOf p shape = HasFaces p (λ m. KeepsInsides m shape)

-- the shape in which its faces fold
abbrev pub IsShapeOf : PatternView → FoldedView → Type 0
IsShapeOf p shape = HasFaces p (λ m. IsShape m shape)

-- its folded shape and the pairs of its faces
pub record IsLayering (p : PatternView) (l : LayeringView) : Type 0 where
  pub shape : IsShapeOf p l.shape
  pub pairs : IsPairList l.shape l.pairs
  pub few : length l.pairs ≤ most_pairs
  pub count : l.rules.pairs ≡ length l.pairs

-- ---- why there are none

abbrev pub fault_of_faces : FaceFault → InstanceFault
fault_of_faces (face.NotConvex at direction) = NotConvex at direction
fault_of_faces (face.TooManyFaces faces) = TooManyFaces faces
fault_of_faces (face.Unreached number) = Unreached number
fault_of_faces face.Memory = Memory

abbrev pub fault_of_folding : WireFault → InstanceFault
fault_of_folding (wire.DoesNotClose piece) = DoesNotClose piece
fault_of_folding (wire.FoldRange number) = FoldRange number
fault_of_folding (wire.TooManyLines lines) = TooManyLines lines
fault_of_folding wire.Memory = Memory

abbrev pub fault_of_pairs : PairsFault → InstanceFault
fault_of_pairs (pairs.TooManyPairs count) = TooManyPairs count
fault_of_pairs pairs.Memory = Memory

-- so many rules are more than any pattern has: two for each pair, one for each crease and face, for each two creases,
-- and for each two pairs
abbrev pub most_rules : ℕ
most_rules = 2147483648

-- memory did not run out
abbrev pub HasMemory : {T : Type 0} → Result T InstanceFault → Type 0
HasMemory result = result ≢ Err Memory

-- its faces fold in a shape with so many pairs, too many
abbrev pub AreTooManyPairs : PatternView → ℕ → Type 0
AreTooManyPairs p n = (shape : FoldedView) × IsShapeOf p shape × (most_pairs < n) × HasPairCount shape n

abbrev pub IsInstanceFault : PatternView → InstanceFault → Type 0
IsInstanceFault p (NotConvex at direction) = IsNotConvexAt p at direction
IsInstanceFault p (TooManyFaces faces) = AreTooMany p faces
IsInstanceFault p (Unreached number) = IsUnreached p number
IsInstanceFault p (DoesNotClose piece) = HasFaces p (λ m. IsOpenAt m piece)
IsInstanceFault p (FoldRange number) = HasFaces p (λ m. IsOutAt m number)
IsInstanceFault p (TooManyLines lines) = HasFaces p (λ m. AreTooManyLines m lines)
IsInstanceFault p (TooManyPairs count) = AreTooManyPairs p count
IsInstanceFault p Memory = ⊤

-- the same without the pairs
abbrev pub IsFaultBeforePairs : PatternView → InstanceFault → Type 0
IsFaultBeforePairs p (TooManyPairs count) = ⊥
IsFaultBeforePairs p fault = IsInstanceFault p fault
