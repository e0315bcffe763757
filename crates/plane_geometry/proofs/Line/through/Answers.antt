use Rattle.std.proofs.Common.{◌%◌, arith}
use Rattle.surd_number.specs.Value.{wide_number_of}
use Rattle.plane_geometry.specs.Position.{position_of}
use Rattle.plane_geometry.specs.LineLaws.{through_side}
use Rattle.plane_geometry.proofs.Line.through.Goals as goal

pub invariant_of-result : goal.invariant_of-result
invariant_of-result c = record { in_range = omega arith; passes = ∣ (c.args.p.now, c.cross_at.ensures) ∣₁ }

pub returns-clause-sides : goal.returns-clause-sides
returns-clause-sides c =
    λ q. through_side (c.args.d.number % 8) (wide_number_of c.cross_at.result)
    (position_of c.args.p.now) q c.cross_at.ensures
