use Rattle.std.proofs.Common.{sym, subst}
use Rattle.surd_number.specs.Number.{IsSame, product_of}
use Rattle.surd_number.specs.Value.{wide_number_of}
use Rattle.isometry_map.specs.declared.wide_points.Entry.{Entry}
use Rattle.isometry_map.specs.Entry.{entry_number}
use Rattle.isometry_map.proofs.Widths.{wide_half_root, more_places, root_fits}
use Rattle.isometry_map.proofs.Images.{times_one, times_root, times_minus_one, times_minus_root}
use Rattle.isometry_map.proofs.wide_points.scaled.Goals as goal

pub nothing-requires : goal.nothing-requires
nothing-requires c = more_places (wide_number_of c.args.w.now) c.requires

pub half_root-requires : goal.half_root-requires
half_root-requires c = wide_half_root (wide_number_of c.args.w.now) c.requires

pub negative-requires : goal.negative-requires
negative-requires c = more_places (wide_number_of c.args.w.now) c.requires

pub half_root-requires-in-MinusHalfRoot : goal.half_root-requires-in-MinusHalfRoot
half_root-requires-in-MinusHalfRoot c = wide_half_root (wide_number_of c.args.w.now) c.requires

pub negative-requires-in-MinusHalfRoot : goal.negative-requires-in-MinusHalfRoot
negative-requires-in-MinusHalfRoot c =
    root_fits (wide_number_of c.half_root-in-MinusHalfRoot.result)
    (wide_number_of c.args.w.now) c.half_root-in-MinusHalfRoot.ensures.exact c.requires

pub returns-in-One : goal.returns-in-One
returns-in-One c =
    let w = wide_number_of c.args.w.now in
    let P : Entry → Type 0 = λ entry. IsSame w (product_of (entry_number entry) w) in
    subst P (sym c.in-One.is) (times_one w)

pub returns-in-HalfRoot : goal.returns-in-HalfRoot
returns-in-HalfRoot c =
    let w = wide_number_of c.args.w.now in
    let r = wide_number_of c.half_root.result in
    let P : Entry → Type 0 = λ entry. IsSame r (product_of (entry_number entry) w) in
    subst P (sym c.in-HalfRoot.is) (times_root r w c.half_root.ensures.exact)

pub returns-in-MinusOne : goal.returns-in-MinusOne
returns-in-MinusOne c =
    let w = wide_number_of c.args.w.now in
    let r = wide_number_of c.negative.result in
    let P : Entry → Type 0 = λ entry. IsSame r (product_of (entry_number entry) w) in
    subst P (sym c.in-MinusOne.is) (times_minus_one r w c.negative.ensures)

pub returns-in-MinusHalfRoot : goal.returns-in-MinusHalfRoot
returns-in-MinusHalfRoot c =
    let w = wide_number_of c.args.w.now in
    let z = wide_number_of c.half_root-in-MinusHalfRoot.result in
    let r = wide_number_of c.negative-in-MinusHalfRoot.result in
    let P : Entry → Type 0 = λ entry. IsSame r (product_of (entry_number entry) w) in
    subst P (sym c.in-MinusHalfRoot.is)
    (times_minus_root r z w c.negative-in-MinusHalfRoot.ensures
    c.half_root-in-MinusHalfRoot.ensures.exact)
