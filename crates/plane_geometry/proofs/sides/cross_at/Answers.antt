use Rattle.std.proofs.Common.{◌≡◌, ◌^◌, lit≤, ap₂, subst}
use Rattle.surd_number.specs.Number.{Number, IsSame}
use Rattle.surd_number.specs.Value.{wide_number_of}
use Rattle.surd_number.specs.FitsLaws.{fits_more}
use Rattle.plane_geometry.specs.Position.{Position, position_of, cross_of}
use Rattle.plane_geometry.specs.Direction.{direction_vector}
use Rattle.plane_geometry.specs.DirView.{dir_number}
use Rattle.plane_geometry.proofs.sides.cross_at.Goals as goal

pub cross-requires-clause-x_fits : goal.cross-requires-clause-x_fits
cross-requires-clause-x_fits c =
    fits_more (2 ^ 52) (2 ^ 66) 16 (wide_number_of c.of.result) (lit≤ tt) c.of.ensures.fits

pub cross-requires-clause-y_fits : goal.cross-requires-clause-y_fits
cross-requires-clause-y_fits c =
    fits_more (2 ^ 52) (2 ^ 66) 16 (wide_number_of c.of-2.result) (lit≤ tt) c.of-2.ensures.fits

pub returns : goal.returns
returns c =
    let P : Position → Type 0 = λ p. IsSame (wide_number_of c.cross.result)
    (cross_of (direction_vector (dir_number c.args.dir)) p) in
    let at : record { x = wide_number_of c.of.result; y = wide_number_of c.of-2.result }
    ≡ position_of c.args.p.now = ap₂
    (λ (x y : Number). let p : Position = record { x = x; y = y } in p) c.of.ensures.value
    c.of-2.ensures.value in
    subst P at c.cross.ensures
