use Rattle.std.proofs.Common.{ℕ, ◌%◌, ap, ◌∙◌, arith}
use Rattle.plane_geometry.specs.declared.Point.{Point}
use Rattle.plane_geometry.specs.Position.{position_of}
use Rattle.plane_geometry.specs.Direction.{side_of}
use Rattle.plane_geometry.specs.LineView.{line_number}
use Rattle.plane_geometry.specs.SegmentView.{stretch_of}
use Rattle.plane_geometry.proofs.CommonAnswer.{common_answer, common_in_line, common_out_of_range}
use Rattle.plane_geometry.proofs.meeting.common_point.Goals as goal

pub returns-clause-value : goal.returns-clause-value
returns-clause-value c =
    common_answer
    (stretch_of c.args.s.now) (stretch_of c.args.u.now) c.through.result c.through-2.result
    (omega (arith, c.args.s.now.dir.in_range)) (omega (arith, c.args.u.now.dir.in_range))
    (c.through.ensures.number ∙ ap (λ (n : ℕ). n % 8) c.dir.ensures.value)
    (c.through-2.ensures.number ∙ ap (λ (n : ℕ). n % 8) c.dir-2.ensures.value)
    (λ q. c.through.ensures.sides q
    ∙ ap (λ (p : Point). side_of (position_of p) (line_number c.through.result) q) c.from.ensures.value)
    (λ q. c.through-2.ensures.sides q
    ∙ ap (λ (p : Point). side_of (position_of p) (line_number c.through-2.result) q)
    c.from-2.ensures.value)
    c.meet.result c.meet.ensures.parallel c.meet.ensures.point c.meet.ensures.out_of_range

pub returns-clause-point : goal.returns-clause-point
returns-clause-point c =
    common_in_line
    (stretch_of c.args.s.now) (stretch_of c.args.u.now) c.through.result c.through-2.result
    (omega (arith, c.args.s.now.dir.in_range)) (omega (arith, c.args.u.now.dir.in_range))
    (c.through.ensures.number ∙ ap (λ (n : ℕ). n % 8) c.dir.ensures.value)
    (c.through-2.ensures.number ∙ ap (λ (n : ℕ). n % 8) c.dir-2.ensures.value)
    (λ q. c.through.ensures.sides q
    ∙ ap (λ (p : Point). side_of (position_of p) (line_number c.through.result) q) c.from.ensures.value)
    (λ q. c.through-2.ensures.sides q
    ∙ ap (λ (p : Point). side_of (position_of p) (line_number c.through-2.result) q)
    c.from-2.ensures.value)
    c.meet.result c.meet.ensures.point

pub returns-clause-out_of_range : goal.returns-clause-out_of_range
returns-clause-out_of_range c =
    common_out_of_range
    (stretch_of c.args.s.now) (stretch_of c.args.u.now) c.through.result c.through-2.result
    (omega (arith, c.args.s.now.dir.in_range)) (omega (arith, c.args.u.now.dir.in_range))
    (c.through.ensures.number ∙ ap (λ (n : ℕ). n % 8) c.dir.ensures.value)
    (c.through-2.ensures.number ∙ ap (λ (n : ℕ). n % 8) c.dir-2.ensures.value)
    (λ q. c.through.ensures.sides q
    ∙ ap (λ (p : Point). side_of (position_of p) (line_number c.through.result) q) c.from.ensures.value)
    (λ q. c.through-2.ensures.sides q
    ∙ ap (λ (p : Point). side_of (position_of p) (line_number c.through-2.result) q)
    c.from-2.ensures.value)
    c.meet.result c.meet.ensures.out_of_range
