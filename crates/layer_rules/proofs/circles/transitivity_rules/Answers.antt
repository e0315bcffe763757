use Rattle.std.proofs.Common.{length, arith}
use Rattle.rayon.proofs.ListFacts.{IfOk-then}
use Rattle.layer_rules.proofs.CircleRules.{pairs_ordered, circles_break, breaks_circles, circles_on, circles_differ}
use Rattle.layer_rules.proofs.circles.transitivity_rules.Goals as goal

pub circles-requires-clause-pairs : goal.circles-requires-clause-pairs
circles-requires-clause-pairs c = pairs_ordered c.args.shape.now c.args.pairs.now c.requires.pairs

pub returns-clause-meaning : goal.returns-clause-meaning
returns-clause-meaning c =
    let shape = c.args.shape.now in
    let pairs = c.args.pairs.now in
    IfOk-then c.circles.result _ _ c.circles.ensures
    (λ v h signs. (
      circles_break shape pairs c.requires.pairs signs v.items h,
      breaks_circles shape pairs c.requires.pairs signs v.items h,
    ))

pub returns-clause-rules : goal.returns-clause-rules
returns-clause-rules c =
    let shape = c.args.shape.now in
    let pairs = c.args.pairs.now in
    IfOk-then c.circles.result _ _ c.circles.ensures
    (λ v h. circles_on shape pairs c.requires.pairs.ascending (length pairs) 0 v.items h)

pub returns-clause-different : goal.returns-clause-different
returns-clause-different c =
    let shape = c.args.shape.now in
    let pairs = c.args.pairs.now in
    IfOk-then c.circles.result _ _ c.circles.ensures
    (λ v h. circles_differ shape pairs c.requires.pairs.ascending (length pairs) 0 v.items h)

pub returns-clause-few : goal.returns-clause-few
returns-clause-few c =
    IfOk-then c.circles.result _ _ c.circles.ensures (λ v h. omega (arith, h.few))
