use Rattle.isometry_map.specs.MatrixLaws.{turned_reverse}
use Rattle.isometry_map.proofs.laws.turned_reverse.Goals as goal

pub returns : goal.returns
returns c = turned_reverse
