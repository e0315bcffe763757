use Rattle.std.proofs.Common.{◌∙◌, ◌+◌, List, length, sym, subst, arith}
use Rattle.std.proofs.lemmas.Bool.{false≢true}
use Rattle.sign_rules.specs.declared.rule.Rule.{Rule}
use Rattle.layer_rules.specs.Circles.{AreCirclesBefore}
use Rattle.layer_rules.proofs.SignPlaces.{pair_of, get_below}
use Rattle.layer_rules.proofs.CircleLists.{circle_skip, circle_push}
use Rattle.layer_rules.proofs.CirclePlaces.{in_range_at, no_middle, no_point, one_circle}
use Rattle.layer_rules.proofs.circles.push_circle.Goals as goal

pub returns-in_default : goal.returns-in_default
returns-in_default c =
    let shape = c.args.shape.now in
    let pairs = c.args.pairs.now in
    let p = c.args.p in
    let t = c.args.t in
    let pair = c.pair_at-pair.result.now in
    let other = c.pair_at-other.result.now in
    let e = c.pair_at-pair.ensures in
    let f = c.pair_at-other.ensures in
    circle_skip shape pairs c.requires.pairs.ascending p t c.args.rules.now.items
    (no_middle shape pairs c.requires.pairs.ascending p t pair other e f c.in_default.ensures) c.requires.before

pub returns-then-not-have_common_point : goal.returns-then-not-have_common_point
returns-then-not-have_common_point c =
    let shape = c.args.shape.now in
    let pairs = c.args.pairs.now in
    let p = c.args.p in
    let t = c.args.t in
    let pair = c.pair_at-pair.result.now in
    let other = c.pair_at-other.result.now in
    let e = c.pair_at-pair.ensures in
    let f = c.pair_at-other.ensures in
    let region = c.region.result.now in
    let at = c.region.ensures in
    circle_skip shape pairs c.requires.pairs.ascending p t c.args.rules.now.items
    (no_point shape pairs c.requires.pairs.ascending p t pair other e f c.args.common.now region
    (c.requires.common pair e) at
    (λ point. false≢true (sym c.if-not-have_common_point.true ∙ c.have_common_point.ensures.1 point))) c.requires.before

pub overflow_cast-q : goal.overflow_cast-q
overflow_cast-q c =
    omega (
      arith,
      get_below c.args.pairs.now c.in-Some.q (pair_of c.pair_at-pair.result.now.j c.pair_at-other.result.now.j)
          c.in-Some.ensures,
    )

pub returns : goal.returns
returns c =
    let shape = c.args.shape.now in
    let pairs = c.args.pairs.now in
    let p = c.args.p in
    let t = c.args.t in
    let pair = c.pair_at-pair.result.now in
    let other = c.pair_at-other.result.now in
    let e = c.pair_at-pair.ensures in
    let f = c.pair_at-other.ensures in
    let region = c.region.result.now in
    let up = c.requires.pairs.ascending in
    let lower = in_range_at (length shape.faces) pairs p pair c.requires.pairs e in
    let at = c.region.ensures in
    let circle = one_circle shape pairs up p t pair other e f c.args.common.now region c.in-Some.q
    (c.requires.common pair e) at (c.have_common_point.ensures.0 c.if-not-have_common_point.false) c.requires.later
    (c.requires.one_face pair other e f) lower.1 c.in-Some.ensures in
    subst (λ (l : List Rule). AreCirclesBefore shape pairs p (t + 1) l) (sym c.in_ok-push.ensures.items)
    (circle_push shape pairs up p c.in-Some.q t c.args.rules.now.items circle c.requires.before)

pub region-requires-clause-first : goal.region-requires-clause-first
region-requires-clause-first c =
    let within =
    in_range_at (length c.args.shape.now.faces) c.args.pairs.now c.args.t c.pair_at-other.result.now c.requires.pairs
    c.pair_at-other.ensures in
    omega (arith, within.0, within.1)

pub region-requires-clause-last : goal.region-requires-clause-last
region-requires-clause-last c =
    (in_range_at (length c.args.shape.now.faces) c.args.pairs.now c.args.t c.pair_at-other.result.now c.requires.pairs
    c.pair_at-other.ensures).2
