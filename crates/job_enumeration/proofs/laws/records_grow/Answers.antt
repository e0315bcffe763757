use Rattle.job_enumeration.proofs.Growth.{job_after-grown, record-grown, record-front}
use Rattle.job_enumeration.proofs.laws.records_grow.Goals as goal

pub returns : goal.returns
returns c = record {
  legal = λ j es e. (record-front j es e, λ h. record-grown j es e h.0 h.1);
  job = job_after-grown;
}
