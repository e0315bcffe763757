use Rattle.job_register.proofs.Versions.{undo_brings_back}
use Rattle.job_register.proofs.laws.undo_brings_back.Goals as goal

pub returns : goal.returns
returns c = undo_brings_back
