use Rattle.std.proofs.Common.{◌≡◌, ℕ, ◌≤◌, ap, ◌∙◌, arith}
use Rattle.surd_number.specs.Value.{wide_number_of}
use Rattle.plane_geometry.specs.declared.Line.{Line}
use Rattle.plane_geometry.specs.CrossTable.{cross_tangents, cross_roots}
use Rattle.plane_geometry.specs.Direction.{direction_vector}
use Rattle.plane_geometry.specs.LineView.{line_number}
use Rattle.plane_geometry.specs.MeetLaws.{cross_tangents-few, cross_roots-few}
use Rattle.plane_geometry.specs.Common.{meeting_of}
use Rattle.plane_geometry.specs.Part.{part_number}
use Rattle.plane_geometry.proofs.Meets.{wide_quotient, coordinate_is, point_at_same}
use Rattle.plane_geometry.proofs.meeting.meet_later.Goals as goal

few : (l m : Line) (i : ℕ) → i ≡ cross_tangents (line_number l) (line_number m) → i ≤ 1
few l m i e =
    let h = cross_tangents-few (line_number l) (line_number m) (omega (arith, l.in_range))
    (omega (arith, m.in_range)) in
    omega (arith, h, e)

few_roots : (l m : Line) (j : ℕ) → j ≡ cross_roots (line_number l) (line_number m) → j ≤ 3
few_roots l m j e =
    let h = cross_roots-few (line_number l) (line_number m) (omega (arith, l.in_range))
    (omega (arith, m.in_range)) in
    omega (arith, h, e)

pub over_unit-x-requires-clause-fits : goal.over_unit-x-requires-clause-fits
over_unit-x-requires-clause-fits c =
    wide_quotient c.cross_unit-i.result.0 c.cross_unit-i.result.1 (wide_number_of c.coordinate.result)
    (few c.args.l.now c.args.m.now c.cross_unit-i.result.0 c.cross_unit-i.ensures.tangents)
    (few_roots c.args.l.now c.args.m.now c.cross_unit-i.result.1 c.cross_unit-i.ensures.roots)
    c.coordinate.ensures.fits

pub over_unit-y-requires-clause-few : goal.over_unit-y-requires-clause-few
over_unit-y-requires-clause-few c =
    few c.args.l.now c.args.m.now c.cross_unit-i.result.0 c.cross_unit-i.ensures.tangents

pub over_unit-y-requires-clause-few_roots : goal.over_unit-y-requires-clause-few_roots
over_unit-y-requires-clause-few_roots c =
    few_roots c.args.l.now c.args.m.now c.cross_unit-i.result.1 c.cross_unit-i.ensures.roots

pub over_unit-y-requires-clause-fits : goal.over_unit-y-requires-clause-fits
over_unit-y-requires-clause-fits c =
    wide_quotient c.cross_unit-i.result.0 c.cross_unit-i.result.1 (wide_number_of c.coordinate-2.result)
    (few c.args.l.now c.args.m.now c.cross_unit-i.result.0 c.cross_unit-i.ensures.tangents)
    (few_roots c.args.l.now c.args.m.now c.cross_unit-i.result.1 c.cross_unit-i.ensures.roots)
    c.coordinate-2.ensures.fits

pub returns : goal.returns
returns c =
    let l = c.args.l.now in
    let m = c.args.m.now in
    let i = c.cross_unit-i.result.0 in
    let j = c.cross_unit-i.result.1 in
    let o = wide_number_of l.offset in
    let u = wide_number_of m.offset in
    let x = wide_number_of c.over_unit-x.result in
    let y = wide_number_of c.over_unit-y.result in
    let p = meeting_of l m in
    let at_l = c.dir.ensures in
    let at_m = c.dir-2.ensures in
    point_at_same c.narrowed.result x y p.x p.y
    (coordinate_is x (wide_number_of c.coordinate.result) o u (part_number c.parts-m_x.result.0)
    (part_number c.parts-l_x.result.0)
    (direction_vector (line_number m)).x (direction_vector (line_number l)).x i j
    (cross_tangents (line_number l) (line_number m)) (cross_roots (line_number l) (line_number m))
    c.cross_unit-i.ensures.tangents c.cross_unit-i.ensures.roots
    (c.parts-m_x.ensures.x ∙ ap (λ (n : ℕ). (direction_vector n).x) at_m)
    (c.parts-l_x.ensures.x ∙ ap (λ (n : ℕ). (direction_vector n).x) at_l)
    c.coordinate.ensures.value c.over_unit-x.ensures)
    (coordinate_is y (wide_number_of c.coordinate-2.result) o u (part_number c.parts-m_x.result.1)
    (part_number c.parts-l_x.result.1)
    (direction_vector (line_number m)).y (direction_vector (line_number l)).y i j
    (cross_tangents (line_number l) (line_number m)) (cross_roots (line_number l) (line_number m))
    c.cross_unit-i.ensures.tangents c.cross_unit-i.ensures.roots
    (c.parts-m_x.ensures.y ∙ ap (λ (n : ℕ). (direction_vector n).y) at_m)
    (c.parts-l_x.ensures.y ∙ ap (λ (n : ℕ). (direction_vector n).y) at_l)
    c.coordinate-2.ensures.value c.over_unit-y.ensures)
    c.narrowed.ensures
