use Rattle.wireframe_fold.proofs.OneShape.{shape_is_one}
use Rattle.wireframe_fold.proofs.laws.shape_is_one.Goals as goal

pub returns : goal.returns
returns c = shape_is_one
