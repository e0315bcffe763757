-- Records that grow by one event.
use Rattle.std.proofs.Common.{◌≡◌, List, [], ◌∷◌, ◌++◌, refl}
use Rattle.worker_split.specs.Job.{JobView}
use Rattle.job_enumeration.specs.Record.{JobEvent, after_event, job_after, IsLegalEvent, IsJobRecordFrom}

pub job_after-grown : (j : JobView) (es : List JobEvent) (e : JobEvent)
    → job_after j (es ++ e ∷ []) ≡ after_event (job_after j es) e
job_after-grown j [] e = refl
job_after-grown j (d ∷ es) e = job_after-grown (after_event j d) es e

pub record-grown : (j : JobView) (es : List JobEvent) (e : JobEvent) → IsJobRecordFrom j es
    → IsLegalEvent (job_after j es) e → IsJobRecordFrom j (es ++ e ∷ [])
record-grown j [] e legal last = (last, tt)
record-grown j (d ∷ es) e legal last = (legal.0, record-grown (after_event j d) es e legal.1 last)

pub record-front : (j : JobView) (es : List JobEvent) (e : JobEvent) → IsJobRecordFrom j (es ++ e ∷ [])
    → IsJobRecordFrom j es × IsLegalEvent (job_after j es) e
record-front j [] e legal = (tt, legal.0)
record-front j (d ∷ es) e legal =
    let rest = record-front (after_event j d) es e legal.1 in ((legal.0, rest.0), rest.1)
