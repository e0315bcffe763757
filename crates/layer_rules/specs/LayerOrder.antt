-- Layer orders: sign lists that meet the four conditions.
use Rattle.std.specs.Prelude.{◌≡◌, ◌≤◌, List, length}
use Rattle.crease_model.specs.declared.Kind.{Kind}
use Rattle.isometry_map.specs.Folded.{FoldedView}
use Rattle.sign_rules.specs.declared.sign.Sign.{Sign}
use Rattle.layer_rules.specs.declared.face_pairs.FacePair.{FacePair}
use Rattle.layer_rules.specs.CreaseCondition.{BreaksCreaseCondition}
use Rattle.layer_rules.specs.TacoTortilla.{BreaksTacoTortilla}
use Rattle.layer_rules.specs.TacoTaco.{BreaksTacoTaco}
use Rattle.layer_rules.specs.Transitivity.{BreaksTransitivity}

-- at most one sign for each pair, and no instance of a condition all of whose pairs have signs is broken
pub record IsConsistent (shape : FoldedView) (kinds : List Kind) (pairs : List FacePair) (signs : List Sign)
    : Type 0 where
  pub within : length signs ≤ length pairs
  pub creases : ¬ BreaksCreaseCondition shape kinds pairs signs
  pub tortillas : ¬ BreaksTacoTortilla shape pairs signs
  pub tacos : ¬ BreaksTacoTaco shape pairs signs
  pub triples : ¬ BreaksTransitivity shape pairs signs

-- a valid layer order: a sign for each pair, and no instance is broken
pub record IsLayerOrder (shape : FoldedView) (kinds : List Kind) (pairs : List FacePair) (signs : List Sign)
    : Type 0 where
  pub whole : length signs ≡ length pairs
  pub consistent : IsConsistent shape kinds pairs signs
