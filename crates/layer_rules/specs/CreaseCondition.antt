-- The crease condition: a face with its front up is above the one across a mountain, and below that across a
-- valley. Of an unassigned crease it says nothing.
use Rattle.std.specs.Prelude.{◌≡◌, ℕ, Bool, true, false, not, List, Option, None, Some, IsTrue}
use Rattle.std.specs.List.{Contains}
use Rattle.crease_model.specs.declared.Kind.{Kind}
use Rattle.crease_model.specs.declared.Kind.TheVariants.{Edge, Mountain, Valley, Aux, Unassigned}
use Rattle.isometry_map.specs.declared.folded.CreaseImage.{CreaseImage}
use Rattle.isometry_map.specs.Folded.{FoldedView}
use Rattle.sign_rules.specs.declared.sign.Sign.{Sign}
use Rattle.layer_rules.specs.declared.face_pairs.FacePair.{FacePair}
use Rattle.layer_rules.specs.Faces.{numbered, turned_at, is_shared_by}
use Rattle.layer_rules.specs.Above.{above}

-- whether the face with its front up is above the one across a crease of this kind, where the kind says so
abbrev pub front_is_above : Kind → Option Bool
front_is_above Edge = None
front_is_above Mountain = Some true
front_is_above Valley = Some false
front_is_above Aux = None
front_is_above Unassigned = None

-- a piece of this kind is shared by face f, whose front is up, and face g, which is turned
pub record IsFold (shape : FoldedView) (kinds : List Kind) (f g : ℕ) (kind : Kind) : Type 0 where
  pub crease : CreaseImage
  pub there : Contains shape.creases crease
  pub shared : IsTrue (is_shared_by f g crease)
  pub front : turned_at shape.faces f ≡ Some false
  pub back : turned_at shape.faces g ≡ Some true
  pub folded : numbered kinds crease.piece ≡ Some kind

-- the list decides the pair of such faces f and g, and puts them the wrong way
abbrev pub BreaksCreaseCondition : FoldedView → List Kind → List FacePair → List Sign → Type 0
BreaksCreaseCondition shape kinds pairs signs =
    (f : ℕ) × (g : ℕ) × (kind : Kind) × (wanted : Bool) × IsFold shape kinds f g kind
    × (front_is_above kind ≡ Some wanted) × (above pairs signs f g ≡ Some (not wanted))
