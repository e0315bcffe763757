use Rattle.std.proofs.Common.{sym, ◌∙◌, below_more, arith}
use Rattle.plane_geometry.specs.Position.{position_of}
use Rattle.plane_geometry.specs.DirectionLaws.{direction_found, direction_none}
use Rattle.plane_geometry.proofs.directions.first_direction.Goals as goal

pub returns-then-goes_along-clause-value : goal.returns-then-goes_along-clause-value
returns-then-goes_along-clause-value c =
    sym (direction_found c.loop-number.number (position_of c.args.p.now) (position_of c.args.q.now)
    (omega arith) (sym c.goes_along.ensures ∙ c.if-goes_along.true) c.loop-number.invariant)

pub loop-number-preserved : goal.loop-number-preserved
loop-number-preserved c =
    below_more _ _ c.loop-number.invariant (sym c.goes_along.ensures ∙ c.if-goes_along.false)

pub returns-clause-value : goal.returns-clause-value
returns-clause-value c =
    sym (direction_none (position_of c.args.p.now) (position_of c.args.q.now)
    (λ k h. c.loop-number.invariant k (omega arith)))
