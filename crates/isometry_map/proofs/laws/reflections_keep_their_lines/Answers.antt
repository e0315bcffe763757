use Rattle.isometry_map.specs.MatrixLaws.{reflections_keep_their_lines}
use Rattle.isometry_map.proofs.laws.reflections_keep_their_lines.Goals as goal

pub returns : goal.returns
returns c = reflections_keep_their_lines
