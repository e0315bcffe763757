use Rattle.job_register.proofs.Versions.{redo_goes_back}
use Rattle.job_register.proofs.laws.redo_goes_back.Goals as goal

pub returns : goal.returns
returns c = redo_goes_back
