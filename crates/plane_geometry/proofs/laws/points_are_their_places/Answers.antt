use Rattle.plane_geometry.specs.OrderLaws.{point_is_place}
use Rattle.plane_geometry.proofs.laws.points_are_their_places.Goals as goal

pub returns : goal.returns
returns c = point_is_place
