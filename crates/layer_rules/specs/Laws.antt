-- What unassigned creases mean for layer orders.
use Rattle.std.specs.Prelude.{◌↔◌, List}
use Rattle.crease_model.specs.declared.Kind.{Kind}
use Rattle.crease_model.specs.View.{PatternView}
use Rattle.isometry_map.specs.Folded.{FoldedView}
use Rattle.sign_rules.specs.declared.sign.Sign.{Sign}
use Rattle.layer_rules.specs.declared.face_pairs.FacePair.{FacePair}
use Rattle.layer_rules.specs.Assignment.{IsAssignment}
use Rattle.layer_rules.specs.LayerOrder.{IsLayerOrder}
use Rattle.layer_rules.specs.Layering.{kinds_of, IsShapeOf}

-- the layer orders of a pattern are those of its assignments
abbrev pub OrdersAreOfAssignments : Type 0
OrdersAreOfAssignments =
    (p : PatternView) (shape : FoldedView) (pairs : List FacePair) (signs : List Sign)
    → IsShapeOf p shape
    → IsLayerOrder shape (kinds_of p.pieces) pairs signs
    ↔ ((kinds : List Kind) × IsAssignment (kinds_of p.pieces) kinds × IsLayerOrder shape kinds pairs signs)
