use Rattle.std.proofs.Common.{◌+◌, ◌∙◌, Bool, sym, subst, length}
use Rattle.std.specs.Prelude.{nat_lt}
use Rattle.std.proofs.lemmas.Bool.{false≢true}
use Rattle.sign_rules.specs.declared.rule.Rule.TheVariants.{Equal}
use Rattle.layer_rules.specs.RuleMeaning.{IsRuleFor}
use Rattle.layer_rules.specs.TacoTortilla.{BreaksTacoTortillaAt}
use Rattle.layer_rules.proofs.TortillaRules.{beq_same, rule_for, no_first_pair, no_second_pair, enters_at}
use Rattle.layer_rules.proofs.tortillas.tortilla.Goals as goal

pub returns-in_default : goal.returns-in_default
returns-in_default c =
    λ signs.
    no_first_pair c.args.shape.now c.args.pairs.now c.args.crease.now (c.args.u + 1) signs c.requires.pairs
    c.in_default.ensures

pub returns-in_default-place_of : goal.returns-in_default-place_of
returns-in_default-place_of c =
    λ signs.
    no_second_pair c.args.shape.now c.args.pairs.now c.args.crease.now (c.args.u + 1) signs c.requires.pairs
    c.in_default-place_of.ensures

pub returns-then-not-runs_into : goal.returns-then-not-runs_into
returns-then-not-runs_into c =
    λ signs h.
    let same =
    enters_at c.args.shape.now c.args.crease.now (c.args.u + 1) c.region.result.now c.region.ensures in
    false≢true (sym c.if-not-runs_into.true ∙ c.runs_into.ensures.1 (same.1 h.0.enters))

pub returns : goal.returns
returns c =
    let shape = c.args.shape.now in
    let pairs = c.args.pairs.now in
    let crease = c.args.crease.now in
    let u = c.args.u + 1 in
    let same = enters_at shape crease u c.region.result.now c.region.ensures in
    subst
    (λ (b : Bool). IsRuleFor (length pairs) (BreaksTacoTortillaAt shape pairs crease u) (Equal c.in-Some.p c.in-Some-place_of.q b))
    (sym (beq_same (nat_lt crease.a u) (nat_lt crease.b u)))
    (rule_for shape pairs c.requires.pairs crease u c.in-Some.p c.in-Some-place_of.q c.in-Some.ensures
    c.in-Some-place_of.ensures c.if-crease.false (same.0 (c.runs_into.ensures.0 c.if-not-runs_into.false)))
