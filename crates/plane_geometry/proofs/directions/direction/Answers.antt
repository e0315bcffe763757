use Rattle.plane_geometry.specs.Position.{position_of}
use Rattle.plane_geometry.specs.DirLaws.{direction_exact}
use Rattle.plane_geometry.proofs.directions.direction.Goals as goal

pub returns-clause-exact : goal.returns-clause-exact
returns-clause-exact c =
    direction_exact c.first_direction.result (position_of c.args.p.now)
    (position_of c.args.q.now) c.first_direction.ensures.found
