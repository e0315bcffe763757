use Rattle.std.proofs.Common.{◌≡◌, ℕ, ◌+◌, ◌*◌, length, subst, arith}
use Rattle.layer_rules.specs.RuleMeaning.{MakesRules, ForSomeBelow}
use Rattle.layer_rules.specs.TacoTortilla.{BreaksTacoTortillaAt}
use Rattle.layer_rules.proofs.RulesMade.{none_made, more_made, rule_made}
use Rattle.layer_rules.proofs.tortillas.push_tortillas.Goals as goal

pub loop-u-init : goal.loop-u-init
loop-u-init c =
    none_made (length c.args.pairs.now) 1
    (λ n. BreaksTacoTortillaAt c.args.shape.now c.args.pairs.now c.args.crease.now (n + 1)) c.args.rules.now.items

pub loop-u-preserved : goal.loop-u-preserved
loop-u-preserved c =
    let count = length c.args.pairs.now in
    let u = c.loop-u.u in
    more_made count 1 (λ n. BreaksTacoTortillaAt c.args.shape.now c.args.pairs.now c.args.crease.now (n + 1)) u
    c.args.rules.now.items c.loop-u.rules.items _ c.loop-u.invariant
    (rule_made count (BreaksTacoTortillaAt c.args.shape.now c.args.pairs.now c.args.crease.now (u + 1))
    c.tortilla.result c.loop-u.rules.items _ c.tortilla.ensures
    c.in_ok-push_rule.ensures)

pub returns : goal.returns
returns c =
    let faces = length c.args.shape.now.faces in
    let all : c.loop-u.u ≡ faces = omega arith in
    let once : faces * 1 ≡ faces = omega arith in
    let each = ForSomeBelow (λ n. BreaksTacoTortillaAt c.args.shape.now c.args.pairs.now c.args.crease.now (n + 1)) in
    subst
    (λ (m : ℕ). MakesRules (length c.args.pairs.now) m (each faces) c.args.rules.now.items c.loop-u.rules.items) once
    (subst
    (λ (m : ℕ). MakesRules (length c.args.pairs.now) (m * 1) (each m) c.args.rules.now.items c.loop-u.rules.items) all
    c.loop-u.invariant)
