use Rattle.std.proofs.Common.{◌^◌, lit≤}
use Rattle.surd_number.specs.Value.{wide_number_of}
use Rattle.surd_number.specs.FitsLaws.{fits_more}
use Rattle.plane_geometry.proofs.Wides.{wide_difference, nothing_by}
use Rattle.plane_geometry.proofs.sides.nothing.Goals as goal

pub minus-requires : goal.minus-requires
minus-requires c =
    let w = wide_number_of c.args.w.now in
    let few = fits_more (2 ^ 70) (2 ^ 76) 16 w (lit≤ tt) c.requires in
    wide_difference w w few few

pub returns : goal.returns
returns c = nothing_by (wide_number_of c.minus.result) (wide_number_of c.args.w.now) c.minus.ensures
