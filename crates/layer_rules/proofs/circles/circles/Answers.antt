use Rattle.std.proofs.Common.{ℕ, List, length, subst, sym, arith, ◌≡◌}
use Rattle.sign_rules.specs.declared.rule.Rule.{Rule}
use Rattle.layer_rules.specs.Circles.{AreCirclesBefore}
use Rattle.layer_rules.proofs.CircleLists.{no_circles}
use Rattle.layer_rules.proofs.circles.circles.Goals as goal

pub loop-p-init : goal.loop-p-init
loop-p-init c =
    subst (λ (l : List Rule). AreCirclesBefore c.args.shape.now c.args.pairs.now 0 0 l)
    (sym c.new-rules.ensures.items) (no_circles c.args.shape.now c.args.pairs.now c.requires.pairs.ascending)

pub returns : goal.returns
returns c =
    let all : c.loop-p.p ≡ length c.args.pairs.now = omega arith in
    subst (λ (n : ℕ). AreCirclesBefore c.args.shape.now c.args.pairs.now n 0 c.loop-p.rules.items) all
    c.loop-p.invariant
