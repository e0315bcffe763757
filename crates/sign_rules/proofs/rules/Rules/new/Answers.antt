use Rattle.std.proofs.Common.{◌≡◌, ◌∙◌, ◌+◌, [], ◌∷◌, ◌++◌, length, slice_index_or, slice_set, true, sym, ap, subst, arith}
use Rattle.std.proofs.lemmas.List.{get_or_default}
use Rattle.sign_rules.specs.Rules.{are_rules_on}
use Rattle.sign_rules.specs.RuleIndex.{IsIndex}
use Rattle.sign_rules.proofs.Chains.{IsIndex-more, last_pair-below}
use Rattle.sign_rules.proofs.rules.Rules.new.Goals as goal

pub index-requires : goal.index-requires
index-requires c =
    let items = c.deref-rule-items.result.now in
    let all : are_rules_on c.args.pairs items
    ≡ true = subst (λ rs. are_rules_on c.args.pairs rs ≡ true)
    (sym c.deref-rule-items.ensures.value) c.requires.rules in
    omega (
      arith,
      last_pair-below c.args.pairs items c.last_pair-last.result c.loop-number.number _ all
          c.loop-number-test.true c.last_pair-last.ensures,
      c.loop-number.invariant.starts,
    )

pub index_mut-requires : goal.index_mut-requires
index_mut-requires c =
    let items = c.deref-rule-items.result.now in
    let all : are_rules_on c.args.pairs items
    ≡ true = subst (λ rs. are_rules_on c.args.pairs rs ≡ true)
    (sym c.deref-rule-items.ensures.value) c.requires.rules in
    omega (
      arith,
      last_pair-below c.args.pairs items c.last_pair-last.result c.loop-number.number _ all
          c.loop-number-test.true c.last_pair-last.ensures,
      c.loop-number.invariant.starts,
    )

pub loop-number-preserved : goal.loop-number-preserved
loop-number-preserved c =
    let items = c.deref-rule-items.result.now in
    let all : are_rules_on c.args.pairs items
    ≡ true = subst (λ rs. are_rules_on c.args.pairs rs ≡ true)
    (sym c.deref-rule-items.ensures.value) c.requires.rules in
    let within = last_pair-below c.args.pairs items c.last_pair-last.result c.loop-number.number _ all
    c.loop-number-test.true c.last_pair-last.ensures in
    let last = c.last_pair-last.result in
    let read : c.index.result.now ≡ slice_index_or c.loop-number.latest.items last 0 =
    c.index.ensures ∙ get_or_default c.loop-number.latest.items last c.index.result.now 0
    (omega (arith, c.loop-number.invariant.starts)) in
    let longer : c.push.new.self.items ≡ c.loop-number.earlier.items
    ++ slice_index_or c.loop-number.latest.items last 0 ∷ [] =
    c.in_ok-push.ensures.items ∙ ap (λ n. c.loop-number.earlier.items ++ n ∷ []) read in
    subst (IsIndex c.args.pairs (c.loop-number.number + 1) items
    (slice_set c.loop-number.latest.items last (c.loop-number.number + 1))) (sym longer)
    (IsIndex-more c.args.pairs c.loop-number.number items c.loop-number.latest.items
    c.loop-number.earlier.items last _ c.loop-number.invariant
    c.loop-number-test.true c.last_pair-last.ensures within)

pub invariant_of-result : goal.invariant_of-result
invariant_of-result c =
    let items = c.deref-rule-items.result.now in
    let all_seen : c.loop-number.number ≡ length items = omega (arith, c.loop-number.auto.number-end) in
    let whole = subst (λ n. IsIndex c.args.pairs n items c.loop-number.latest.items
    c.loop-number.earlier.items) all_seen c.loop-number.invariant in (
      c.requires.rules,
      c.requires.numbers,
      subst (λ rs. IsIndex c.args.pairs (length rs) rs c.loop-number.latest.items c.loop-number.earlier.items)
          c.deref-rule-items.ensures.value whole,
    )
