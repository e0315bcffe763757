use Rattle.std.proofs.Common.{subst, arith}
use Rattle.surd_number.specs.declared.Wide.{Wide}
use Rattle.surd_number.specs.Number.{IsSame}
use Rattle.surd_number.specs.Value.{wide_number_of}
use Rattle.plane_geometry.specs.Position.{cross_of}
use Rattle.plane_geometry.specs.Direction.{direction_vector}
use Rattle.plane_geometry.specs.LineView.{line_number}
use Rattle.isometry_map.proofs.Widths.{offset_fits_more, nought_over, negative_offset_fits}
use Rattle.isometry_map.proofs.Mirrors.{axis_right, axis_up, axis_left}
use Rattle.isometry_map.proofs.isometries.axis_point.Goals as goal

pub nothing-nought-requires : goal.nothing-nought-requires
nothing-nought-requires c =
    offset_fits_more (wide_number_of c.offset-offset.result) c.offset-offset.ensures.fits

pub negative-requires : goal.negative-requires
negative-requires c = offset_fits_more (wide_number_of c.offset-offset.result) c.offset-offset.ensures.fits

pub negative-requires-in_default : goal.negative-requires-in_default
negative-requires-in_default c =
    offset_fits_more (wide_number_of c.offset-offset.result) c.offset-offset.ensures.fits

pub returns-in-0-to-2-clause-on : goal.returns-in-0-to-2-clause-on
returns-in-0-to-2-clause-on c =
    let l = c.args.line.now in
    let n = line_number l in
    let w = c.offset-offset.result in
    let z = wide_number_of c.nothing-nought.result in
    let P : Wide → Type 0 = λ o. IsSame
    (cross_of (direction_vector n) (record { x = z; y = wide_number_of w })) (wide_number_of o) in
    subst P c.offset-offset.ensures.value
    (axis_right n z (wide_number_of w) (omega arith) c.nothing-nought.ensures)

pub returns-in-3-to-5-clause-on : goal.returns-in-3-to-5-clause-on
returns-in-3-to-5-clause-on c =
    let l = c.args.line.now in
    let n = line_number l in
    let w = c.offset-offset.result in
    let z = wide_number_of c.nothing-nought.result in
    let r = wide_number_of c.negative.result in
    let P : Wide → Type 0 = λ o. IsSame (cross_of (direction_vector n) (record { x = r; y = z }))
    (wide_number_of o) in
    subst P c.offset-offset.ensures.value
    (axis_up n z r (wide_number_of w) (omega arith)
    (omega arith) c.nothing-nought.ensures c.negative.ensures)

pub returns-in-3-to-5-clause-fits : goal.returns-in-3-to-5-clause-fits
returns-in-3-to-5-clause-fits c = (
  negative_offset_fits (wide_number_of c.negative.result)
      (wide_number_of c.offset-offset.result) c.negative.ensures c.offset-offset.ensures.fits,
  nought_over (wide_number_of c.nothing-nought.result) c.nothing-nought.ensures,
)

pub returns-in_default-clause-on : goal.returns-in_default-clause-on
returns-in_default-clause-on c =
    let l = c.args.line.now in
    let n = line_number l in
    let w = c.offset-offset.result in
    let z = wide_number_of c.nothing-nought.result in
    let r = wide_number_of c.negative-in_default.result in
    let P : Wide → Type 0 = λ o. IsSame (cross_of (direction_vector n) (record { x = z; y = r }))
    (wide_number_of o) in
    subst P c.offset-offset.ensures.value
    (axis_left n z r (wide_number_of w) (omega arith)
    (omega (arith, l.in_range)) c.nothing-nought.ensures c.negative-in_default.ensures)

pub returns-in_default-clause-fits : goal.returns-in_default-clause-fits
returns-in_default-clause-fits c = (
  nought_over (wide_number_of c.nothing-nought.result) c.nothing-nought.ensures,
  negative_offset_fits (wide_number_of c.negative-in_default.result)
      (wide_number_of c.offset-offset.result) c.negative-in_default.ensures c.offset-offset.ensures.fits,
)
