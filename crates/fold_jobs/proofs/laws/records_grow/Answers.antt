use Rattle.fold_jobs.proofs.Growing.{jobs_after-grown, record-grown, record-front}
use Rattle.fold_jobs.proofs.laws.records_grow.Goals as goal

pub returns : goal.returns
returns c = record {
  legal = λ s es e. (record-front s es e, λ h. record-grown s es e h.0 h.1);
  jobs = jobs_after-grown;
}
