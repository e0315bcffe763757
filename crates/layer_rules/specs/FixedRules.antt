-- The rules that creases make of the crease condition: for each pair the signs that they give it.
use Rattle.std.specs.Prelude.{ℕ, ◌+◌, Bool, true, false, List, [], ◌∷◌, ◌++◌, Option, None, Some, if◌then◌else◌}
use Rattle.std.specs.List.{list_any}
use Rattle.crease_model.specs.declared.Kind.{Kind}
use Rattle.crease_model.specs.declared.Kind.TheVariants.{Edge, Mountain, Valley, Aux, Unassigned}
use Rattle.isometry_map.specs.declared.folded.FoldedFace.{FoldedFace}
use Rattle.isometry_map.specs.declared.folded.CreaseImage.{CreaseImage}
use Rattle.isometry_map.specs.Folded.{FoldedView}
use Rattle.sign_rules.specs.declared.sign.Sign.{Sign}
use Rattle.sign_rules.specs.declared.sign.Sign.TheVariants.{Over, Under}
use Rattle.sign_rules.specs.declared.rule.Rule.{Rule}
use Rattle.sign_rules.specs.declared.rule.Rule.TheVariants.{Fixed}
use Rattle.layer_rules.specs.declared.face_pairs.FacePair.{FacePair}
use Rattle.layer_rules.specs.Faces.{numbered, turned_at, is_shared_by}

-- the sign of a face with its front up and the turned one across a crease of this kind
abbrev pub front_sign : Kind → Option Sign
front_sign Edge = None
front_sign Mountain = Some Over
front_sign Valley = Some Under
front_sign Aux = None
front_sign Unassigned = None

-- the sign of two faces in the other order
abbrev pub sign_turned : Option Sign → Option Sign
sign_turned None = None
sign_turned (Some Over) = Some Under
sign_turned (Some Under) = Some Over

-- by which of two faces are turned, and by the kind of a crease between them: the sign of their pair
abbrev pub sign_for : Option Bool → Option Bool → Option Kind → Option Sign
sign_for (Some false) (Some true) (Some kind) = front_sign kind
sign_for (Some true) (Some false) (Some kind) = sign_turned (front_sign kind)
sign_for _ _ _ = None

-- the sign that the crease gives the pair, if it lies between its faces
abbrev pub sign_across : List FoldedFace → List Kind → FacePair → CreaseImage → Option Sign
sign_across faces kinds pair crease =
    if is_shared_by pair.i pair.j crease
    then sign_for (turned_at faces pair.i) (turned_at faces pair.j) (numbered kinds crease.piece)
    else None

abbrev pub is_given : Option Sign → Sign → Bool
is_given (Some Over) Over = true
is_given (Some Under) Under = true
is_given _ _ = false

-- some crease gives the pair this sign
abbrev pub is_wanted : FoldedView → List Kind → FacePair → Sign → Bool
is_wanted shape kinds pair sign =
    list_any (λ crease. is_given (sign_across shape.faces kinds pair crease) sign) shape.creases

abbrev pub fixed_rule : Bool → ℕ → Sign → List Rule
fixed_rule wanted p sign = if wanted then Fixed p sign ∷ [] else []

-- the rules of the pair at place p
unfoldable pub fixed_rules : FoldedView → List Kind → ℕ → FacePair → List Rule
fixed_rules shape kinds p pair =
    fixed_rule (is_wanted shape kinds pair Over) p Over
    ++ fixed_rule (is_wanted shape kinds pair Under) p Under

-- those of the pairs from place p on
abbrev pub fixed_rules_from : FoldedView → List Kind → ℕ → List FacePair → List Rule
fixed_rules_from shape kinds p [] = []
fixed_rules_from shape kinds p (pair ∷ pairs) =
    fixed_rules shape kinds p pair ++ fixed_rules_from shape kinds (p + 1) pairs
