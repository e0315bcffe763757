use Rattle.std.proofs.Common.{◌^◌, lit≤}
use Rattle.surd_number.specs.Value.{wide_number_of}
use Rattle.surd_number.specs.FitsLaws.{fits_more}
use Rattle.plane_geometry.proofs.Wides.{wide_difference, difference_fits}
use Rattle.plane_geometry.proofs.sides.difference.Goals as goal

pub minus-requires : goal.minus-requires
minus-requires c =
    let m = wide_number_of c.of.result in
    let n = wide_number_of c.of-2.result in
    wide_difference m n (fits_more (2 ^ 52) (2 ^ 76) 16 m (lit≤ tt) c.of.ensures.fits)
    (fits_more (2 ^ 52) (2 ^ 76) 16 n (lit≤ tt) c.of-2.ensures.fits)

pub returns-clause-fits : goal.returns-clause-fits
returns-clause-fits c =
    difference_fits (wide_number_of c.minus.result) (wide_number_of c.of.result)
    (wide_number_of c.of-2.result) c.minus.ensures c.of.ensures.fits c.of-2.ensures.fits
