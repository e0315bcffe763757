use Rattle.wireframe_fold.proofs.OneFolding.{folding_is_one}
use Rattle.wireframe_fold.proofs.laws.folding_is_one.Goals as goal

pub returns : goal.returns
returns c = folding_is_one
