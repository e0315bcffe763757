use Rattle.std.proofs.Common.{◌+◌, ◌*◌, ◌^◌, lit≤}
use Rattle.surd_number.specs.Number.{product_of, difference_of}
use Rattle.surd_number.specs.Value.{wide_number_of}
use Rattle.surd_number.specs.FitsLaws.{fits_more, fits_same, fits_difference}
use Rattle.plane_geometry.specs.Part.{part_number}
use Rattle.plane_geometry.proofs.Wides.{wide_difference, part_fits}
use Rattle.plane_geometry.proofs.Offsets.{offset_fits}
use Rattle.plane_geometry.proofs.Meets.{coordinate_by}
use Rattle.plane_geometry.proofs.meeting.coordinate.Goals as goal

pub scaled-requires : goal.scaled-requires
scaled-requires c = fits_more (3 * 2 ^ 52 + 3 * 2 ^ 52) (2 ^ 68) 16 (wide_number_of c.args.l.now.offset)
    (lit≤ tt) (offset_fits c.args.l.now)

pub scaled-requires-2 : goal.scaled-requires-2
scaled-requires-2 c =
    fits_more (3 * 2 ^ 52 + 3 * 2 ^ 52) (2 ^ 68) 16 (wide_number_of c.args.m.now.offset) (lit≤ tt)
    (offset_fits c.args.m.now)

pub minus-requires : goal.minus-requires
minus-requires c =
    let m = wide_number_of c.scaled.result in
    let n = wide_number_of c.scaled-2.result in
    let most = 3 * 2 ^ 52 + 3 * 2 ^ 52 in
    wide_difference m n
    (fits_more (3 * most) (2 ^ 76) 16 m (lit≤ tt)
    (part_fits c.args.a most m (wide_number_of c.args.l.now.offset) c.scaled.ensures
    (offset_fits c.args.l.now)))
    (fits_more (3 * most) (2 ^ 76) 16 n (lit≤ tt)
    (part_fits c.args.b most n (wide_number_of c.args.m.now.offset) c.scaled-2.ensures
    (offset_fits c.args.m.now)))

pub returns-clause-value : goal.returns-clause-value
returns-clause-value c =
    coordinate_by (wide_number_of c.minus.result) (wide_number_of c.scaled.result)
    (wide_number_of c.scaled-2.result)
    (product_of (part_number c.args.a) (wide_number_of c.args.l.now.offset))
    (product_of (part_number c.args.b) (wide_number_of c.args.m.now.offset))
    c.minus.ensures c.scaled.ensures c.scaled-2.ensures

pub returns-clause-fits : goal.returns-clause-fits
returns-clause-fits c =
    let m = wide_number_of c.scaled.result in
    let n = wide_number_of c.scaled-2.result in
    let r = wide_number_of c.minus.result in
    let most = 3 * 2 ^ 52 + 3 * 2 ^ 52 in
    fits_more (3 * most + 3 * most) (2 ^ 60) 16 r (lit≤ tt)
    (fits_same (3 * most + 3 * most) 16 (difference_of m n) r c.minus.ensures
    (fits_difference (3 * most) (3 * most) 16 m n
    (part_fits c.args.a most m (wide_number_of c.args.l.now.offset) c.scaled.ensures
    (offset_fits c.args.l.now))
    (part_fits c.args.b most n (wide_number_of c.args.m.now.offset) c.scaled-2.ensures
    (offset_fits c.args.m.now))))
