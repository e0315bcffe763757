use Rattle.plane_geometry.specs.LineLaws.{line_is}
use Rattle.plane_geometry.specs.OrderLaws.{compare_lines-equal}
use Rattle.plane_geometry.proofs.laws.lines_are_their_points.Goals as goal

pub returns-clause-equal : goal.returns-clause-equal
returns-clause-equal c = line_is

pub returns-clause-tied : goal.returns-clause-tied
returns-clause-tied c = compare_lines-equal
