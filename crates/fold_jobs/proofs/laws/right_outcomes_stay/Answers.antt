use Rattle.fold_jobs.proofs.Right.{right_stays, right_posts}
use Rattle.fold_jobs.proofs.laws.right_outcomes_stay.Goals as goal

pub returns : goal.returns
returns c = record { stays = right_stays; posts = right_posts }
