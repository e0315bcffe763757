use Rattle.std.proofs.Common.{◌∙◌, sym, ap}
use Rattle.std.specs.Option.{option_map}
use Rattle.plane_geometry.specs.DirView.{dir_number}
use Rattle.plane_geometry.specs.Polygon.{Side}
use Rattle.wireframe_fold.proofs.SideLines.{line_appended, line_through}
use Rattle.wireframe_fold.proofs.lines.push_line.Goals as goal

pub returns-in_ok-push-in-Some-clause-lines : goal.returns-in_ok-push-in-Some-clause-lines
returns-in_ok-push-in-Some-clause-lines c =
    let p = c.args.start.now in
    let q = c.args.end.now in
    let s : Side = record { start = p; end = q } in
    line_appended s c.args.lines.now.items c.push.new.self.items c.through.result
    c.in_ok-push-in-Some.ensures.items
    (line_through p q (dir_number c.in-Some.dir) c.through.result
    (sym c.direction.ensures.value ∙ ap (option_map dir_number) c.in-Some.is)
    c.through.ensures.number c.through.ensures.offset)
