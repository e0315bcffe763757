use Rattle.plane_geometry.specs.CrossLaws.{direction_cross}
use Rattle.plane_geometry.proofs.laws.cross_products_are_units.Goals as goal

pub returns : goal.returns
returns c = direction_cross
