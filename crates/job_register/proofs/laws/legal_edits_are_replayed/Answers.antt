use Rattle.job_register.proofs.Replaying.{legal_edits_are_replayed}
use Rattle.job_register.proofs.laws.legal_edits_are_replayed.Goals as goal

pub returns : goal.returns
returns c = legal_edits_are_replayed
