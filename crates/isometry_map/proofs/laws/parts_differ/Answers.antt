use Rattle.isometry_map.specs.MatrixLaws.{parts_differ}
use Rattle.isometry_map.proofs.laws.parts_differ.Goals as goal

pub returns : goal.returns
returns c = parts_differ
