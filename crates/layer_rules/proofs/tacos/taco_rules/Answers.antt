use Rattle.std.proofs.Common.{◌≡◌, ◌∙◌, ℕ, ◌*◌, List, [], Some, length, sym, ap, subst, arith}
use Rattle.std.specs.List.{slice_get}
use Rattle.isometry_map.specs.declared.folded.CreaseImage.{CreaseImage}
use Rattle.sign_rules.specs.declared.rule.Rule.{Rule}
use Rattle.layer_rules.specs.declared.crease_lines.LinedCrease.{LinedCrease}
use Rattle.layer_rules.specs.CreaseLines.{AreByLine}
use Rattle.layer_rules.specs.RuleMeaning.{MakesRules, ForSomeBelow}
use Rattle.layer_rules.specs.TacoTaco.{BreaksTacoTacoWith, BreaksTacoTaco}
use Rattle.layer_rules.proofs.SignPlaces.{read_get}
use Rattle.layer_rules.proofs.RulesMade.{AtPlace, none_made, more_made, place_made, list_made, from_nothing, on_from_nothing}
use Rattle.layer_rules.proofs.tacos.taco_rules.Goals as goal

pub push_tacos-requires-clause-lined : goal.push_tacos-requires-clause-lined
push_tacos-requires-clause-lined c =
    subst (λ (l : List CreaseImage). AreByLine l c.as_slice.result.now) c.creases.ensures
    (subst (λ (l : List LinedCrease). AreByLine c.creases.result.now l) (sym c.as_slice.ensures.value)
    c.in_ok-lined.ensures.lined)

pub loop-crease-init : goal.loop-crease-init
loop-crease-init c =
    let shape = c.args.shape.now in
    let pairs = c.args.pairs.now in
    let count = length pairs in
    let each = AtPlace count shape.creases (BreaksTacoTacoWith shape pairs) in
    let most = length shape.creases in
    subst (λ (l : List Rule). MakesRules count (0 * most) (ForSomeBelow each 0) [] l) (sym c.new-rules.ensures.items)
    (none_made count most each [])

pub loop-crease-preserved : goal.loop-crease-preserved
loop-crease-preserved c =
    let shape = c.args.shape.now in
    let pairs = c.args.pairs.now in
    let count = length pairs in
    let i = c.loop-crease.crease-index in
    let crease = c.crease-item.result in
    let there = read_get c.creases-crease-items.result.now i crease c.loop-crease-test.true ∙ ap Some (sym c.crease-item.is) in
    let size : length c.as_slice.result.now ≡ length shape.creases =
    ap (λ (l : List LinedCrease). length l) c.as_slice.ensures.value ∙ c.in_ok-lined.ensures.count
    ∙ ap (λ (l : List CreaseImage). length l) c.creases.ensures in
    more_made count (length shape.creases) (AtPlace count shape.creases (BreaksTacoTacoWith shape pairs)) i [] c.loop-crease.rules.items _
    c.loop-crease.invariant
    (place_made count shape.creases (BreaksTacoTacoWith shape pairs) (length shape.creases) i crease c.loop-crease.rules.items _
    (subst (λ (l : List CreaseImage). slice_get l i ≡ Some crease) c.creases-crease-items.ensures there)
    (subst (λ (m : ℕ). MakesRules count m (BreaksTacoTacoWith shape pairs crease) c.loop-crease.rules.items
    c.push_tacos.new.rules.items) size c.in_ok-push_tacos.ensures))

pub returns-clause-meaning : goal.returns-clause-meaning
returns-clause-meaning c =
    let shape = c.args.shape.now in
    let pairs = c.args.pairs.now in
    let count = length pairs in
    let rules = c.loop-crease.rules.items in
    from_nothing count (c.loop-crease.crease-index * length shape.creases) (BreaksTacoTaco shape pairs) rules
    (list_made count shape.creases (BreaksTacoTacoWith shape pairs)
    (c.loop-crease.crease-index * length shape.creases) c.loop-crease.crease-index [] rules
    (omega (arith, ap (λ (l : List CreaseImage). length l) c.creases-crease-items.ensures)) c.loop-crease.invariant)

pub returns-clause-rules : goal.returns-clause-rules
returns-clause-rules c =
    let shape = c.args.shape.now in
    let pairs = c.args.pairs.now in
    let count = length pairs in
    on_from_nothing count (c.loop-crease.crease-index * length shape.creases)
    (ForSomeBelow (AtPlace count shape.creases (BreaksTacoTacoWith shape pairs)) c.loop-crease.crease-index)
    c.loop-crease.rules.items c.loop-crease.invariant

pub returns-clause-few : goal.returns-clause-few
returns-clause-few c =
    let creases = c.args.shape.now.creases in
    let all : c.loop-crease.crease-index ≡ length creases =
    omega (arith, ap (λ (l : List CreaseImage). length l) c.creases-crease-items.ensures) in
    omega (arith, c.loop-crease.invariant.few, ap (λ (n : ℕ). n * length creases) all)
