use Rattle.std.proofs.Common.{ℤ, ◌*ℤ◌, ap, ◌∙◌, ◌≡◌, ◌+◌, ◌-◌, unsigned_abs, to_z, arith, rules}
use Rattle.std.proofs.lemmas.Int.{to_z-of_z}
use mir.Syntax.{w128}
use Rattle.surd_number.specs.Number.{power}
use Rattle.surd_number.specs.CanonicalLaws.{half-same, odd-least, is_odd}
use Rattle.surd_number.proofs.triple.Triple.reduced.Goals as goal

pub loop-k-preserved : goal.loop-k-preserved
loop-k-preserved c =
    let i = c.loop-k.k - 1 in
    let one_less : c.loop-k.k ≡ i + 1 = omega arith in
    rw (
      to_z-of_z w128 c.halved-a.result (search rules),
      to_z-of_z w128 c.halved-b.result (search rules),
      to_z-of_z w128 c.args.self.now.a (search rules),
      to_z-of_z w128 c.args.self.now.b (search rules),
    ) (
      half-same (to_z w128 c.loop-k.a-bits) c.halved-a.result c.args.self.now.a c.loop-k.k i c.args.self.now.k
          c.halved-a.ensures one_less (c.loop-k.invariant.0
          ∙ ap (λ (z : ℤ). z *ℤ power c.loop-k.k) (to_z-of_z w128 c.args.self.now.a (search rules))),
      half-same (to_z w128 c.loop-k.b-bits) c.halved-b.result c.args.self.now.b c.loop-k.k i c.args.self.now.k
          c.halved-b.ensures one_less (c.loop-k.invariant.1
          ∙ ap (λ (z : ℤ). z *ℤ power c.loop-k.k) (to_z-of_z w128 c.args.self.now.b (search rules))),
    )

pub returns-else-is_even-clause-least : goal.returns-else-is_even-clause-least
returns-else-is_even-clause-least c =
    λ y same. odd-least (to_z w128 c.loop-k.a-bits) y.a y.k c.loop-k.k
    (is_odd (unsigned_abs (to_z w128 c.loop-k.a-bits)) (search rules)) same.0

pub returns-else-is_even-2-clause-least : goal.returns-else-is_even-2-clause-least
returns-else-is_even-2-clause-least c =
    λ y same. odd-least (to_z w128 c.loop-k.b-bits) y.b y.k c.loop-k.k
    (is_odd (unsigned_abs (to_z w128 c.loop-k.b-bits)) (search rules)) same.1
