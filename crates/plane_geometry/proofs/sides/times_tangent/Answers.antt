use Rattle.surd_number.specs.Value.{wide_number_of}
use Rattle.plane_geometry.proofs.Wides.{wide_tangent, tangent_product_is}
use Rattle.plane_geometry.proofs.sides.times_tangent.Goals as goal

pub times_unit-requires-clause-fits : goal.times_unit-requires-clause-fits
times_unit-requires-clause-fits c = wide_tangent (wide_number_of c.args.w.now) c.requires

pub returns : goal.returns
returns c = tangent_product_is (wide_number_of c.times_unit.result)
    (wide_number_of c.args.w.now) c.times_unit.ensures
