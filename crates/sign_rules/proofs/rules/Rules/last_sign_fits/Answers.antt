use Rattle.std.proofs.Common.{◌≡◌, ◌∙◌, ◌<◌, ◌-◌, length, not, sym, ap, subst, arith, true, false, slice_index_or}
use Rattle.std.specs.List.{list_any}
use Rattle.std.proofs.lemmas.List.{get_or_default}
use Rattle.std.proofs.lemmas.List.Folds.{list_any_at}
use Rattle.sign_rules.specs.Rules.{RulesView, is_broken_at_last}
use Rattle.sign_rules.specs.Rule.{last_pair}
use Rattle.sign_rules.specs.RuleIndex.{IsLatest}
use Rattle.sign_rules.specs.ConsistencyLaws.{decided-from_last}
use Rattle.sign_rules.proofs.Chains.{HasFit, HasFit-start, HasFit-next, at_last-broken, none_broken, step_from_value}
use Rattle.sign_rules.proofs.rules.Rules.last_sign_fits.Goals as goal

pub loop-next-init : goal.loop-next-init
loop-next-init c =
    let i = c.self.inside in
    let last = length c.args.signs.now - 1 in
    let within : last < i.pairs = omega (arith, ap (λ (v : RulesView). v.pairs) c.self.view_is) in
    let read : c.index-next.result.now ≡ slice_index_or i.latest.items last 0 =
    c.index-next.ensures
    ∙ get_or_default i.latest.items last c.index-next.result.now 0
    (omega (arith, c.self.invariant.2.starts)) in
    HasFit-start i.rules.items c.args.signs.now c.index-next.result.now
    (subst (λ n. IsLatest i.rules.items last (length i.rules.items) n) (sym read)
    (c.self.invariant.2.begins last within))

pub is_met-requires : goal.is_met-requires
is_met-requires c =
    let own = ap last_pair c.index.ensures ∙ c.loop-next.invariant.found c.index.result.now (omega arith) in
    decided-from_last (length c.args.signs.now) c.index.result.now (omega arith)

-- the chain goes on from the rule that was looked at
going_on : (c : goal.After-row_known-in-loop-next-2-1)
    → IsLatest c.self.inside.rules.items
    (last_pair (slice_index_or c.self.inside.rules.items (c.loop-next.next - 1) c.index.result.now))
    (c.loop-next.next - 1) c.index-next-in-loop-next.result.now
going_on c =
    let i = c.self.inside in
    let number = c.loop-next.next - 1 in
    let below : number < length i.rules.items = omega (arith, c.loop-next.invariant.within) in
    let read : c.index-next-in-loop-next.result.now ≡ slice_index_or i.earlier.items number 0 =
    c.index-next-in-loop-next.ensures
    ∙ get_or_default i.earlier.items number c.index-next-in-loop-next.result.now 0
    (omega (arith, c.self.invariant.2.steps)) in
    subst (λ n. IsLatest i.rules.items
    (last_pair (slice_index_or i.rules.items number c.index.result.now)) number n)
    (sym read) (c.self.invariant.2.goes_on c.index.result.now number below)

pub returns-then-not-is_met-clause-value : goal.returns-then-not-is_met-clause-value
returns-then-not-is_met-clause-value c =
    let i = c.self.inside in
    let rule = c.index.result.now in
    let own = ap last_pair c.index.ensures ∙ c.loop-next.invariant.found rule (omega arith) in
    let broken = at_last-broken c.args.signs.now rule c.requires.some own
    (sym c.is_met.ensures ∙ c.if-not-is_met.true) in
    let some = list_any_at (is_broken_at_last c.args.signs.now) i.rules.items (c.loop-next.next - 1) rule
    (omega (arith, c.loop-next.invariant.within))
    (ap (is_broken_at_last c.args.signs.now) (sym c.index.ensures) ∙ broken) in
    ap not (sym some) ∙ ap
    (λ (v : RulesView). not (list_any (is_broken_at_last c.args.signs.now) v.rules)) c.self.view_is

pub returns-then-not-is_met-clause-step : goal.returns-then-not-is_met-clause-step
returns-then-not-is_met-clause-step c =
    step_from_value c.args.self.now c.args.signs.now false c.requires.within
    (returns-then-not-is_met-clause-value c)

pub loop-next-smaller : goal.loop-next-smaller
loop-next-smaller c = omega (arith, (going_on c).within)

pub loop-next-preserved : goal.loop-next-preserved
loop-next-preserved c =
    HasFit-next c.self.inside.rules.items c.args.signs.now c.loop-next.next
    c.index-next-in-loop-next.result.now c.index.result.now
    c.loop-next.invariant c.loop-next-test.true c.index.ensures (sym c.is_met.ensures ∙ c.if-not-is_met.false)
    (going_on c)

pub returns-clause-value : goal.returns-clause-value
returns-clause-value c =
    ap not (sym (none_broken c.self.inside.rules.items c.args.signs.now c.requires.some
    (subst (HasFit c.self.inside.rules.items c.args.signs.now) (omega arith) c.loop-next.invariant)))
    ∙ ap (λ (v : RulesView). not (list_any (is_broken_at_last c.args.signs.now) v.rules)) c.self.view_is

pub returns-clause-step : goal.returns-clause-step
returns-clause-step c =
    step_from_value c.args.self.now c.args.signs.now true c.requires.within (returns-clause-value c)
