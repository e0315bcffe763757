use Rattle.std.proofs.Common.{◌≡◌, ◌∙◌, ℕ, ◌*◌, List, [], Some, length, sym, ap, subst, arith}
use Rattle.std.specs.List.{slice_get}
use Rattle.isometry_map.specs.declared.folded.CreaseImage.{CreaseImage}
use Rattle.sign_rules.specs.declared.rule.Rule.{Rule}
use Rattle.layer_rules.specs.RuleMeaning.{MakesRules, ForSomeBelow}
use Rattle.layer_rules.proofs.SignPlaces.{read_get}
use Rattle.layer_rules.proofs.RulesMade.{AtPlace, none_made, more_made, place_made, on_from_nothing}
use Rattle.layer_rules.proofs.TortillaRules.{OfCrease, tortillas_made}
use Rattle.layer_rules.proofs.tortillas.tortilla_rules.Goals as goal

pub loop-crease-init : goal.loop-crease-init
loop-crease-init c =
    let shape = c.args.shape.now in
    let pairs = c.args.pairs.now in
    let count = length pairs in
    let each = AtPlace count shape.creases (OfCrease shape pairs) in
    let most = length shape.faces in
    subst (λ (l : List Rule). MakesRules count (0 * most) (ForSomeBelow each 0) [] l) (sym c.new-rules.ensures.items)
    (none_made count most each [])

pub loop-crease-preserved : goal.loop-crease-preserved
loop-crease-preserved c =
    let shape = c.args.shape.now in
    let pairs = c.args.pairs.now in
    let count = length pairs in
    let i = c.loop-crease.crease-index in
    let crease = c.crease-item.result in
    let there = read_get c.creases-crease-items.result.now i crease c.loop-crease-test.true ∙ ap Some (sym c.crease-item.is) in
    more_made count (length shape.faces) (AtPlace count shape.creases (OfCrease shape pairs)) i [] c.loop-crease.rules.items _
    c.loop-crease.invariant
    (place_made count shape.creases (OfCrease shape pairs) (length shape.faces) i crease c.loop-crease.rules.items _
    (subst (λ (l : List CreaseImage). slice_get l i ≡ Some crease) c.creases-crease-items.ensures there)
    c.in_ok-push_tortillas.ensures)

pub returns-clause-meaning : goal.returns-clause-meaning
returns-clause-meaning c =
    tortillas_made c.args.shape.now c.args.pairs.now (length c.args.pairs.now)
    (c.loop-crease.crease-index * length c.args.shape.now.faces) c.loop-crease.crease-index
    c.loop-crease.rules.items (omega (arith, ap (λ (l : List CreaseImage). length l) c.creases-crease-items.ensures))
    c.loop-crease.invariant

pub returns-clause-rules : goal.returns-clause-rules
returns-clause-rules c =
    let shape = c.args.shape.now in
    let pairs = c.args.pairs.now in
    let count = length pairs in
    on_from_nothing count (c.loop-crease.crease-index * length shape.faces) (ForSomeBelow (AtPlace count shape.creases (OfCrease shape pairs)) c.loop-crease.crease-index)
    c.loop-crease.rules.items c.loop-crease.invariant

pub returns-clause-few : goal.returns-clause-few
returns-clause-few c =
    let creases = c.args.shape.now.creases in
    let faces = length c.args.shape.now.faces in
    let all : c.loop-crease.crease-index ≡ length creases =
    omega (arith, ap (λ (l : List CreaseImage). length l) c.creases-crease-items.ensures) in
    omega (arith, c.loop-crease.invariant.few, ap (λ (n : ℕ). n * faces) all)
