use Rattle.std.proofs.Common.{◌∙◌, ap, sym, subst, arith}
use Rattle.layer_rules.specs.declared.face_pairs.FacePair.{FacePair}
use Rattle.layer_rules.specs.Circles.{IsCommon}
use Rattle.layer_rules.proofs.SignPlaces.{some_is}
use Rattle.layer_rules.proofs.CircleLists.{circles_begin, circles_stop, circles_end}
use Rattle.layer_rules.proofs.circles.push_circles.Goals as goal

pub loop-t-init : goal.loop-t-init
loop-t-init c =
    circles_begin c.args.shape.now c.args.pairs.now c.requires.pairs.ascending c.args.p c.args.rules.now.items
    c.requires.before

pub returns-then-other-pair : goal.returns-then-other-pair
returns-then-other-pair c =
    let pairs = c.args.pairs.now in
    let p = c.args.p in
    let t = c.loop-t.t in
    let pair = c.pair_at-pair.result.now in
    let other = c.pair_at-other.result.now in
    let e = c.pair_at-pair.ensures in
    let f = c.pair_at-other.ensures in
    circles_stop c.args.shape.now pairs c.requires.pairs.ascending p t pair other c.loop-t.rules.items
    (omega arith) e f c.if-other-pair.true c.loop-t.invariant

pub push_circle-requires-clause-common : goal.push_circle-requires-clause-common
push_circle-requires-clause-common c =
    let pairs = c.args.pairs.now in
    let pair = c.pair_at-pair.result.now in
    let e = c.pair_at-pair.ensures in
    λ pair' e'.
    subst (λ (q : FacePair). IsCommon c.args.shape.now q c.common-common.result) (some_is pair pair' (sym e ∙ e'))
    c.common-common.ensures

pub push_circle-requires-clause-one_face : goal.push_circle-requires-clause-one_face
push_circle-requires-clause-one_face c =
    let pairs = c.args.pairs.now in
    let pair = c.pair_at-pair.result.now in
    let other = c.pair_at-other.result.now in
    let e = c.pair_at-pair.ensures in
    let f = c.pair_at-other.ensures in
    λ pair' other' e' f'.
    ap (λ (q : FacePair). q.i) (some_is other' other (sym f' ∙ f)) ∙ c.if-other-pair.false
    ∙ ap (λ (q : FacePair). q.i) (some_is pair pair' (sym e ∙ e'))

pub returns : goal.returns
returns c =
    circles_end c.args.shape.now c.args.pairs.now c.requires.pairs.ascending c.args.p c.loop-t.t
    c.loop-t.rules.items (omega arith) c.loop-t.invariant
