-- Taco-taco: of two folded creases that lie on one another, with all four faces on one side, neither has just one face
-- between those of the other.
use Rattle.std.specs.Prelude.{◌≡◌, ◌≢◌, ℕ, ◌%◌, ◌<◌, ◌⊎◌, Bool, List, [], ◌∷◌, Some, count_by}
use Rattle.std.specs.List.{Contains}
use Rattle.surd_number.specs.declared.Sgn.TheVariants.{Pos}
use Rattle.plane_geometry.specs.Position.{Position}
use Rattle.plane_geometry.specs.Direction.{side_of, opposite_number}
use Rattle.plane_geometry.specs.Stretch.{Stretch, ShareTwoPoints}
use Rattle.plane_geometry.specs.SegmentView.{stretch_of}
use Rattle.isometry_map.specs.declared.folded.CreaseImage.{CreaseImage}
use Rattle.isometry_map.specs.Folded.{FoldedView}
use Rattle.sign_rules.specs.declared.sign.Sign.{Sign}
use Rattle.layer_rules.specs.declared.face_pairs.FacePair.{FacePair}
use Rattle.layer_rules.specs.Faces.{IsInside}
use Rattle.layer_rules.specs.FacePairs.{ArePair}
use Rattle.layer_rules.specs.Above.{above}

-- no point strictly inside the folded face is strictly left of the line through q in direction n
abbrev pub HasNothingLeftOf : FoldedView → Position → ℕ → ℕ → Type 0
HasNothingLeftOf shape q n f = (p : Position) → IsInside shape f p → side_of q n p ≢ Pos

-- none strictly inside the folded faces of the crease is
abbrev pub HaveNothingLeftOf : FoldedView → Position → ℕ → CreaseImage → Type 0
HaveNothingLeftOf shape q n c = HasNothingLeftOf shape q n c.a × HasNothingLeftOf shape q n c.b

-- the faces of both creases lie on one side of the line of the stretch
abbrev pub LieOnOneSide : FoldedView → Stretch → CreaseImage → CreaseImage → Type 0
LieOnOneSide shape s c d =
    (HaveNothingLeftOf shape s.from s.dir c × HaveNothingLeftOf shape s.from s.dir d)
    ⊎ (HaveNothingLeftOf shape s.from (opposite_number s.dir) c
    × HaveNothingLeftOf shape s.from (opposite_number s.dir) d)

-- two creases, the one with the lesser first face first, of four faces, any two of which are a pair, so different: their
-- images have a part of positive length in common, and all faces lie on one side of it
pub record IsTacoTaco (shape : FoldedView) (c d : CreaseImage) : Type 0 where
  pub ascending : c.a < d.a
  pub common : ShareTwoPoints (stretch_of c.image) (stretch_of d.image)
  pub one_side : LieOnOneSide shape (stretch_of c.image) c d
  pub first_pair : ArePair shape c.a c.b
  pub second_pair : ArePair shape d.a d.b
  pub pair_aa : ArePair shape c.a d.a
  pub pair_ba : ArePair shape c.b d.a
  pub pair_ab : ArePair shape c.a d.b
  pub pair_bb : ArePair shape c.b d.b

-- an odd number of them is true
abbrev pub IsOddCount : List Bool → Type 0
IsOddCount answers = count_by (λ answer. answer) answers % 2 ≡ 1

-- the list decides which faces of the first crease are above which of the second, and an odd number of them is
abbrev pub Pinches : List FacePair → List Sign → CreaseImage → CreaseImage → Type 0
Pinches pairs signs c d =
    (aa : Bool) × (ba : Bool) × (ab : Bool) × (bb : Bool)
    × (above pairs signs c.a d.a ≡ Some aa) × (above pairs signs c.b d.a ≡ Some ba)
    × (above pairs signs c.a d.b ≡ Some ab) × (above pairs signs c.b d.b ≡ Some bb)
    × IsOddCount (aa ∷ ba ∷ ab ∷ bb ∷ [])

-- it does so at these two creases, which are such tacos
abbrev pub BreaksTacoTacoAt : FoldedView → List FacePair → CreaseImage → CreaseImage → List Sign → Type 0
BreaksTacoTacoAt shape pairs c d signs = IsTacoTaco shape c d × Pinches pairs signs c d

-- it does so at this crease and some other
abbrev pub BreaksTacoTacoWith : FoldedView → List FacePair → CreaseImage → List Sign → Type 0
BreaksTacoTacoWith shape pairs c signs =
    (d : CreaseImage) × Contains shape.creases d × BreaksTacoTacoAt shape pairs c d signs

-- it does so at some crease
abbrev pub BreaksTacoTaco : FoldedView → List FacePair → List Sign → Type 0
BreaksTacoTaco shape pairs signs =
    (c : CreaseImage) × Contains shape.creases c × BreaksTacoTacoWith shape pairs c signs
