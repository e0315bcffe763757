-- Taco-tortilla: a face that a folded crease runs into lies above both faces of the crease, or below both.
use Rattle.std.specs.Prelude.{◌≡◌, ℕ, Bool, not, List, Some, IsTrue}
use Rattle.std.specs.List.{Contains}
use Rattle.plane_geometry.specs.Position.{Position}
use Rattle.plane_geometry.specs.Stretch.{is_between}
use Rattle.plane_geometry.specs.SegmentView.{stretch_of}
use Rattle.isometry_map.specs.declared.folded.CreaseImage.{CreaseImage}
use Rattle.isometry_map.specs.Folded.{FoldedView}
use Rattle.sign_rules.specs.declared.sign.Sign.{Sign}
use Rattle.layer_rules.specs.declared.face_pairs.FacePair.{FacePair}
use Rattle.layer_rules.specs.Faces.{IsInside}
use Rattle.layer_rules.specs.FacePairs.{ArePair}
use Rattle.layer_rules.specs.Above.{above}

-- some point strictly between the ends of the crease's image is strictly inside the folded face u
abbrev pub RunsInto : FoldedView → CreaseImage → ℕ → Type 0
RunsInto shape crease u =
    (p : Position) × IsTrue (is_between p (stretch_of crease.image)) × IsInside shape u p

-- the crease runs into the face u, which is a pair with each of its own faces, so another one
pub record IsTacoTortilla (shape : FoldedView) (crease : CreaseImage) (u : ℕ) : Type 0 where
  pub enters : RunsInto shape crease u
  pub first_pair : ArePair shape crease.a u
  pub second_pair : ArePair shape crease.b u

-- the list decides the pairs of u with the faces of the crease, and puts it between these
abbrev pub PutsBetween : List FacePair → List Sign → CreaseImage → ℕ → Type 0
PutsBetween pairs signs crease u =
    (x : Bool) × (above pairs signs crease.a u ≡ Some x) × (above pairs signs crease.b u ≡ Some (not x))

-- it puts such a face between the faces of the crease
abbrev pub BreaksTacoTortillaAt : FoldedView → List FacePair → CreaseImage → ℕ → List Sign → Type 0
BreaksTacoTortillaAt shape pairs crease u signs =
    IsTacoTortilla shape crease u × PutsBetween pairs signs crease u

-- it does so at some crease and face
abbrev pub BreaksTacoTortilla : FoldedView → List FacePair → List Sign → Type 0
BreaksTacoTortilla shape pairs signs =
    (crease : CreaseImage) × (u : ℕ) × Contains shape.creases crease
    × BreaksTacoTortillaAt shape pairs crease u signs
