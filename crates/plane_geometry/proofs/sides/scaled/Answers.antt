use Rattle.std.proofs.Common.{sym, subst}
use Rattle.surd_number.specs.Number.{IsSame, product_of}
use Rattle.surd_number.specs.Value.{wide_number_of}
use Rattle.plane_geometry.specs.declared.sides.Part.{Part}
use Rattle.plane_geometry.specs.Part.{part_number}
use Rattle.plane_geometry.proofs.Wides.{tangent_fits, times_one, times_minus_one, times_minus_tangent}
use Rattle.plane_geometry.proofs.sides.scaled.Goals as goal

pub negative-requires-in-MinusTangent : goal.negative-requires-in-MinusTangent
negative-requires-in-MinusTangent c =
    tangent_fits (wide_number_of c.times_tangent-in-MinusTangent.result)
    (wide_number_of c.args.w.now) c.times_tangent-in-MinusTangent.ensures c.requires

pub returns-in-One : goal.returns-in-One
returns-in-One c =
    let w = wide_number_of c.args.w.now in
    let P : Part → Type 0 = λ part. IsSame w (product_of (part_number part) w) in
    subst P (sym c.in-One.is) (times_one w)

pub returns-in-MinusOne : goal.returns-in-MinusOne
returns-in-MinusOne c =
    let w = wide_number_of c.args.w.now in
    let r = wide_number_of c.negative.result in
    let P : Part → Type 0 = λ part. IsSame r (product_of (part_number part) w) in
    subst P (sym c.in-MinusOne.is) (times_minus_one r w c.negative.ensures)

pub returns-in-MinusTangent : goal.returns-in-MinusTangent
returns-in-MinusTangent c =
    let w = wide_number_of c.args.w.now in
    let z = wide_number_of c.times_tangent-in-MinusTangent.result in
    let r = wide_number_of c.negative-in-MinusTangent.result in
    let P : Part → Type 0 = λ part. IsSame r (product_of (part_number part) w) in
    subst P (sym c.in-MinusTangent.is)
    (times_minus_tangent r z w c.negative-in-MinusTangent.ensures c.times_tangent-in-MinusTangent.ensures)
