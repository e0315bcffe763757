use Rattle.std.proofs.Common.{sym, ◌∙◌}
use Rattle.plane_geometry.proofs.Faults.{zero_length_in_order, bad_direction_in_order, bad_direction_turned, zero_length_here, bad_direction_not_here}
use Rattle.plane_geometry.proofs.Segment.new.Goals as goal

pub returns-then-is_before-clause-zero_length : goal.returns-then-is_before-clause-zero_length
returns-then-is_before-clause-zero_length c =
    zero_length_in_order c.in_order.result c.args.p.now c.args.q.now
    (sym c.is_before.ensures ∙ c.if-is_before.true) c.in_order.ensures.ends

pub returns-then-is_before-clause-bad_direction : goal.returns-then-is_before-clause-bad_direction
returns-then-is_before-clause-bad_direction c =
    bad_direction_in_order c.in_order.result c.args.p.now c.args.q.now
    (sym c.is_before.ensures ∙ c.if-is_before.true) c.in_order.ensures.ends

pub returns-then-is_before-2-clause-bad_direction : goal.returns-then-is_before-2-clause-bad_direction
returns-then-is_before-2-clause-bad_direction c =
    bad_direction_turned c.in_order-then-is_before-2.result c.args.p.now c.args.q.now
    (sym c.is_before-else-is_before.ensures
    ∙ c.if-is_before-2.true) c.in_order-then-is_before-2.ensures.ends

pub returns-else-is_before-2-clause-zero_length : goal.returns-else-is_before-2-clause-zero_length
returns-else-is_before-2-clause-zero_length c =
    zero_length_here c.args.p.now c.args.q.now (sym c.is_before.ensures ∙ c.if-is_before.false)
    (sym c.is_before-else-is_before.ensures ∙ c.if-is_before-2.false)

pub returns-else-is_before-2-clause-bad_direction : goal.returns-else-is_before-2-clause-bad_direction
returns-else-is_before-2-clause-bad_direction c =
    bad_direction_not_here c.args.p.now c.args.q.now (sym c.is_before.ensures ∙ c.if-is_before.false)
    (sym c.is_before-else-is_before.ensures ∙ c.if-is_before-2.false)
