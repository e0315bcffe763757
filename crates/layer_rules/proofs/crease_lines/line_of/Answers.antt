use Rattle.plane_geometry.specs.DirView.{dir_number}
use Rattle.layer_rules.proofs.OneLine.{line_of_is}
use Rattle.layer_rules.proofs.crease_lines.line_of.Goals as goal

pub returns : goal.returns
returns c =
    line_of_is c.args.s.now c.through.result c.from.result.now (dir_number c.dir.result) c.from.ensures.value
    c.dir.ensures.value c.through.ensures.number c.through.ensures.sides
