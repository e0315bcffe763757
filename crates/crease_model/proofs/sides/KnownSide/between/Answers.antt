use Rattle.std.proofs.Common.{◌<◌, sym, ◌∙◌, arith}
use Rattle.plane_geometry.specs.DirView.{dir_number}
use Rattle.crease_model.proofs.KnownSides.{never_refused}
use Rattle.crease_model.proofs.sides.KnownSide.between.Goals as goal

pub returns-in_err-segment : goal.returns-in_err-segment
returns-in_err-segment c =
    let d = c.in_ok-dir.dir in
    let few : dir_number d < 16 = omega (arith, d.in_range) in
    let along = (c.direction.ensures.exact d).0 c.in_ok-dir.was in
    absurd
    (never_refused c.new.result c.args.start.now c.args.end.now (dir_number d) few along
    c.new.ensures.zero_length c.new.ensures.bad_direction (sym c.ok.ensures.value ∙ c.in_err-segment.was))
