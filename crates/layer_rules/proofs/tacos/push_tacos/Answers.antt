use Rattle.std.proofs.Common.{◌∙◌, ◌*◌, Some, length, sym, ap, arith}
use Rattle.std.specs.List.{Contains}
use Rattle.layer_rules.specs.declared.crease_lines.LinedCrease.{LinedCrease}
use Rattle.layer_rules.specs.TacoTaco.{BreaksTacoTacoAt, BreaksTacoTacoWith}
use Rattle.layer_rules.proofs.SignPlaces.{read_get}
use Rattle.layer_rules.proofs.RulesMade.{AtPlace, none_made, more_made, rule_made, same_made, place_made, list_made}
use Rattle.layer_rules.proofs.CreasesOnLine.{near_breaks}
use Rattle.layer_rules.proofs.tacos.push_tacos.Goals as goal

pub loop-second-init : goal.loop-second-init
loop-second-init c =
    let shape = c.args.shape.now in
    let pairs = c.args.pairs.now in
    let first = c.args.first.now in
    let count = length pairs in
    none_made count 1
    (AtPlace count c.on_line-near.result.now (λ (x : LinedCrease). BreaksTacoTacoAt shape pairs first x.crease))
    c.args.rules.now.items

pub loop-second-preserved : goal.loop-second-preserved
loop-second-preserved c =
    let shape = c.args.shape.now in
    let pairs = c.args.pairs.now in
    let first = c.args.first.now in
    let count = length pairs in
    let near = c.on_line-near.result.now in
    let i = c.loop-second.second-index in
    let second = c.second-item.result in
    let breaks = λ (x : LinedCrease). BreaksTacoTacoAt shape pairs first x.crease in
    more_made count 1 (AtPlace count near breaks) i c.args.rules.now.items c.loop-second.rules.items _
    c.loop-second.invariant
    (place_made count near breaks 1 i second c.loop-second.rules.items _
    (read_get near i second c.loop-second-test.true ∙ ap Some (sym c.second-item.is))
    (rule_made count (BreaksTacoTacoAt shape pairs first second.crease) c.taco.result c.loop-second.rules.items _
    c.taco.ensures c.in_ok-push_rule.ensures))

pub returns : goal.returns
returns c =
    let shape = c.args.shape.now in
    let pairs = c.args.pairs.now in
    let first = c.args.first.now in
    let count = length pairs in
    let near = c.on_line-near.result.now in
    let end = c.loop-second.second-index in
    let breaks = λ (x : LinedCrease). BreaksTacoTacoAt shape pairs first x.crease in
    let made =
    same_made count (end * 1) (λ signs. (x : LinedCrease) × Contains near x × breaks x signs)
    (BreaksTacoTacoWith shape pairs first) c.args.rules.now.items c.loop-second.rules.items
    (near_breaks shape.creases c.args.lined.now near c.requires.lined first c.line_of-line.result c.line_of-line.ensures
    c.on_line-near.ensures.lined (BreaksTacoTacoAt shape pairs first) (λ d signs h. h.0.common))
    (list_made count near breaks (end * 1) end c.args.rules.now.items c.loop-second.rules.items
    (omega arith) c.loop-second.invariant) in
    record {
      few = omega (arith, made.few, c.on_line-near.ensures.few);
      on_pairs = made.on_pairs;
      meaning = made.meaning;
    }
