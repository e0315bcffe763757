use Rattle.std.proofs.Common.{List, length, sym, ap, subst, arith}
use Rattle.std.specs.Bool.{IsTrue}
use Rattle.std.specs.List.{list_any}
use Rattle.sign_rules.specs.declared.rule.Rule.{Rule}
use Rattle.sign_rules.specs.Rules.{are_rules_on, is_broken}
use Rattle.layer_rules.specs.RuleLists.{AreDifferent}
use Rattle.layer_rules.specs.FixedRules.{fixed_rules_from}
use Rattle.layer_rules.proofs.FixedRuleLists.{whole_list, fixed_breaks, breaks_fixed}
use Rattle.layer_rules.proofs.FixedRulesOn.{rules_on, all_different, few_rules}
use Rattle.layer_rules.proofs.creases.crease_rules.Goals as goal

pub returns-clause-meaning : goal.returns-clause-meaning
returns-clause-meaning c =
    λ signs.
    let shape = c.args.folded.now in
    let kinds = c.args.kinds.now in
    let pairs = c.args.pairs.now in
    let same = whole_list shape kinds c.loop-p.rules.items c.loop-p.p pairs
    (fixed_rules_from shape kinds 0 pairs) c.loop-p-test.false c.loop-p.invariant in (
      λ broken.
          fixed_breaks shape kinds pairs c.requires.pairs signs
          (subst (λ (l : List Rule). IsTrue (list_any (is_broken signs) l)) same broken),
      λ breaks.
          subst (λ (l : List Rule). IsTrue (list_any (is_broken signs) l)) (sym same)
          (breaks_fixed shape kinds pairs c.requires.pairs signs breaks),
    )

pub returns-clause-rules : goal.returns-clause-rules
returns-clause-rules c =
    let shape = c.args.folded.now in
    let kinds = c.args.kinds.now in
    let pairs = c.args.pairs.now in
    let same = whole_list shape kinds c.loop-p.rules.items c.loop-p.p pairs
    (fixed_rules_from shape kinds 0 pairs) c.loop-p-test.false c.loop-p.invariant in
    subst (λ (l : List Rule). IsTrue (are_rules_on (length pairs) l)) (sym same)
    (rules_on shape kinds (length pairs) 0 pairs (omega arith))

pub returns-clause-different : goal.returns-clause-different
returns-clause-different c =
    let shape = c.args.folded.now in
    let kinds = c.args.kinds.now in
    let pairs = c.args.pairs.now in
    let same = whole_list shape kinds c.loop-p.rules.items c.loop-p.p pairs
    (fixed_rules_from shape kinds 0 pairs) c.loop-p-test.false c.loop-p.invariant in
    subst AreDifferent (sym same) (all_different shape kinds 0 pairs)

pub returns-clause-few : goal.returns-clause-few
returns-clause-few c =
    let shape = c.args.folded.now in
    let kinds = c.args.kinds.now in
    let pairs = c.args.pairs.now in
    let same = whole_list shape kinds c.loop-p.rules.items c.loop-p.p pairs
    (fixed_rules_from shape kinds 0 pairs) c.loop-p-test.false c.loop-p.invariant in
    omega (arith, ap (λ (l : List Rule). length l) same, few_rules shape kinds 0 pairs)
