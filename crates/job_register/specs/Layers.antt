-- The layers of a pattern with what their rules mean.
use Rattle.std.specs.Prelude.{◌↔◌, List, IsTrue}
use Rattle.crease_model.specs.View.{PatternView}
use Rattle.sign_rules.specs.declared.sign.Sign.{Sign}
use Rattle.sign_rules.specs.Rules.{is_consistent}
use Rattle.layer_rules.specs.LayerOrder.{IsConsistent}
use Rattle.layer_rules.specs.Layering.{LayeringView, IsLayering, kinds_of}

-- its folded shape, the pairs of its faces, and rules that a sign list keeps exactly where it keeps the conditions
-- of layer orders
pub record IsLayersOf (p : PatternView) (l : LayeringView) : Type 0 where
  pub layering : IsLayering p l
  pub meaning : (signs : List Sign) → IsTrue (is_consistent l.rules signs)
      ↔ IsConsistent l.shape (kinds_of p.pieces) l.pairs signs
