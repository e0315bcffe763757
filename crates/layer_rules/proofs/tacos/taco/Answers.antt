use Rattle.std.proofs.Common.{◌∙◌, Bool, sym, subst, length, arith}
use Rattle.std.proofs.lemmas.Bool.{false≢true}
use Rattle.sign_rules.specs.declared.rule.Rule.TheVariants.{Even}
use Rattle.layer_rules.specs.RuleMeaning.{IsRuleFor}
use Rattle.layer_rules.specs.TacoTaco.{BreaksTacoTacoAt}
use Rattle.layer_rules.proofs.PlacedSigns.{pair_there}
use Rattle.layer_rules.proofs.SignPlaces.{get_contains}
use Rattle.layer_rules.proofs.TacoRules.{rule_for}
use Rattle.layer_rules.specs.FacePlaces.{lesser_first}
use Rattle.layer_rules.proofs.tacos.taco.Goals as goal

pub returns-then-not-lie_together : goal.returns-then-not-lie_together
returns-then-not-lie_together c =
    λ signs h. false≢true (sym c.if-not-lie_together.true ∙ c.lie_together.ensures.1 h.0.common)

pub returns-in_default : goal.returns-in_default
returns-in_default c =
    λ signs h.
    c.in_default.ensures (pair_there c.args.shape.now c.args.pairs.now c.requires.pairs c.args.c.now.a c.args.d.now.a h.0.pair_aa)

pub returns-in_default-place_of : goal.returns-in_default-place_of
returns-in_default-place_of c =
    λ signs h.
    c.in_default-place_of.ensures (pair_there c.args.shape.now c.args.pairs.now c.requires.pairs c.args.c.now.b c.args.d.now.a h.0.pair_ba)

pub returns-in_default-place_of-2 : goal.returns-in_default-place_of-2
returns-in_default-place_of-2 c =
    λ signs h.
    c.in_default-place_of-2.ensures (pair_there c.args.shape.now c.args.pairs.now c.requires.pairs c.args.c.now.a c.args.d.now.b h.0.pair_ab)

pub returns-in_default-place_of-3 : goal.returns-in_default-place_of-3
returns-in_default-place_of-3 c =
    λ signs h.
    c.in_default-place_of-3.ensures (pair_there c.args.shape.now c.args.pairs.now c.requires.pairs c.args.c.now.b c.args.d.now.b h.0.pair_bb)

pub returns-in_default-place_of-4 : goal.returns-in_default-place_of-4
returns-in_default-place_of-4 c =
    λ signs h.
    c.in_default-place_of-4.ensures (pair_there c.args.shape.now c.args.pairs.now c.requires.pairs c.args.c.now.a c.args.c.now.b h.0.first_pair)

pub returns-in_default-place_of-5 : goal.returns-in_default-place_of-5
returns-in_default-place_of-5 c =
    λ signs h.
    c.in_default-place_of-5.ensures (pair_there c.args.shape.now c.args.pairs.now c.requires.pairs c.args.d.now.a c.args.d.now.b h.0.second_pair)

pub returns-then-not-lie_on_one_side : goal.returns-then-not-lie_on_one_side
returns-then-not-lie_on_one_side c =
    λ signs h.
    false≢true (sym c.if-not-lie_on_one_side.true ∙ c.lie_on_one_side.ensures.1 h.0.one_side)

pub returns : goal.returns
returns c =
    let shape = c.args.shape.now in
    let pairs = c.args.pairs.now in
    let first = c.args.c.now in
    let second = c.args.d.now in
    subst
    (λ (b : Bool). IsRuleFor (length pairs) (BreaksTacoTacoAt shape pairs first second)
    (Even c.in-Some.p c.in-Some-place_of.q c.in-Some-place_of-2.r c.in-Some-place_of-3.s b))
    (sym c.is_turned_oddly.ensures)
    (rule_for shape pairs c.requires.pairs first second c.in-Some.p c.in-Some-place_of.q c.in-Some-place_of-2.r c.in-Some-place_of-3.s
    c.in-Some.ensures c.in-Some-place_of.ensures c.in-Some-place_of-2.ensures c.in-Some-place_of-3.ensures (omega arith)
    (c.lie_together.ensures.0 c.if-not-lie_together.false)
    (c.lie_on_one_side.ensures.0 c.if-not-lie_on_one_side.false)
    (get_contains pairs c.in-Some-place_of-4._first (lesser_first first.a first.b) c.in-Some-place_of-4.ensures)
    (get_contains pairs c.in-Some-place_of-5._second (lesser_first second.a second.b) c.in-Some-place_of-5.ensures))
