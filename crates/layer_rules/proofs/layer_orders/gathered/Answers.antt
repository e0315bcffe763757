use Rattle.std.proofs.Common.{◌∙◌, List, ◌++◌, length, ap, ap₂, subst}
use Rattle.std.specs.Prelude.{◌↔◌, IsTrue}
use Rattle.std.specs.List.{list_any}
use Rattle.isometry_map.specs.Folded.{FoldedView}
use Rattle.sign_rules.specs.declared.sign.Sign.{Sign}
use Rattle.sign_rules.specs.Rules.{is_broken}
use Rattle.layer_rules.specs.CreaseCondition.{BreaksCreaseCondition}
use Rattle.sign_rules.specs.declared.rule.Rule.{Rule}
use Rattle.layer_rules.proofs.OrderRules.{consistent_is, all_on, all_few}
use Rattle.layer_rules.proofs.layer_orders.gathered.Goals as goal

pub returns-clause-meaning : goal.returns-clause-meaning
returns-clause-meaning c =
    let a = c.in_ok-rules.rules.items in
    let b = c.in_ok-tortillas.tortillas.items in
    let d = c.in_ok-tacos.tacos.items in
    let e = c.in_ok-circles.circles.items in
    let first = c.in_ok-extend_from_slice.ensures.items ∙ ap (λ (l : List Rule). a ++ l) c.as_slice.ensures.value in
    let second = c.in_ok-extend_from_slice-2.ensures.items ∙ ap₂ ◌++◌ first c.as_slice-2.ensures.value in
    let third = c.in_ok-extend_from_slice-3.ensures.items ∙ ap₂ ◌++◌ second c.as_slice-3.ensures.value in
    let creases = subst (λ (s : FoldedView). (signs : List Sign) → IsTrue (list_any (is_broken signs) a)
    ↔ BreaksCreaseCondition s c.args.kinds.now c.args.pairs.now signs) c.folded.ensures c.in_ok-rules.ensures.meaning in
    consistent_is c.args.shape.now c.args.kinds.now c.args.pairs.now a b d e creases
    c.in_ok-tortillas.ensures.meaning c.in_ok-tacos.ensures.meaning
    c.in_ok-circles.ensures.meaning _ third

pub returns-clause-rules : goal.returns-clause-rules
returns-clause-rules c =
    let a = c.in_ok-rules.rules.items in
    let b = c.in_ok-tortillas.tortillas.items in
    let d = c.in_ok-tacos.tacos.items in
    let e = c.in_ok-circles.circles.items in
    let first = c.in_ok-extend_from_slice.ensures.items ∙ ap (λ (l : List Rule). a ++ l) c.as_slice.ensures.value in
    let second = c.in_ok-extend_from_slice-2.ensures.items ∙ ap₂ ◌++◌ first c.as_slice-2.ensures.value in
    let third = c.in_ok-extend_from_slice-3.ensures.items ∙ ap₂ ◌++◌ second c.as_slice-3.ensures.value in
    all_on (length c.args.pairs.now) a b d e _ c.in_ok-rules.ensures.rules c.in_ok-tortillas.ensures.rules
    c.in_ok-tacos.ensures.rules c.in_ok-circles.ensures.rules third

pub returns-clause-few : goal.returns-clause-few
returns-clause-few c =
    let a = c.in_ok-rules.rules.items in
    let b = c.in_ok-tortillas.tortillas.items in
    let d = c.in_ok-tacos.tacos.items in
    let e = c.in_ok-circles.circles.items in
    let first = c.in_ok-extend_from_slice.ensures.items ∙ ap (λ (l : List Rule). a ++ l) c.as_slice.ensures.value in
    let second = c.in_ok-extend_from_slice-2.ensures.items ∙ ap₂ ◌++◌ first c.as_slice-2.ensures.value in
    let third = c.in_ok-extend_from_slice-3.ensures.items ∙ ap₂ ◌++◌ second c.as_slice-3.ensures.value in
    all_few c.args.shape.now c.args.pairs.now a b d e _ third c.requires.faces c.requires.creases c.requires.few
    c.in_ok-rules.ensures.few c.in_ok-tortillas.ensures.few c.in_ok-tacos.ensures.few c.in_ok-circles.ensures.few
