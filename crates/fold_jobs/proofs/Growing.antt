-- Records that grow by one event.
use Rattle.std.proofs.Common.{◌≡◌, List, [], ◌∷◌, ◌++◌, refl}
use Rattle.fold_jobs.specs.Machine.{JobsView}
use Rattle.fold_jobs.specs.Record.{JobsEvent, after_event, jobs_after, IsLegalEvent, IsRecordFrom}

pub jobs_after-grown : (s : JobsView) (es : List JobsEvent) (e : JobsEvent)
    → jobs_after s (es ++ e ∷ []) ≡ after_event (jobs_after s es) e
jobs_after-grown s [] e = refl
jobs_after-grown s (d ∷ es) e = jobs_after-grown (after_event s d) es e

pub record-grown : (s : JobsView) (es : List JobsEvent) (e : JobsEvent) → IsRecordFrom s es
    → IsLegalEvent (jobs_after s es) e → IsRecordFrom s (es ++ e ∷ [])
record-grown s [] e legal last = (last, tt)
record-grown s (d ∷ es) e legal last = (legal.0, record-grown (after_event s d) es e legal.1 last)

pub record-front : (s : JobsView) (es : List JobsEvent) (e : JobsEvent) → IsRecordFrom s (es ++ e ∷ [])
    → IsRecordFrom s es × IsLegalEvent (jobs_after s es) e
record-front s [] e legal = (tt, legal.0)
record-front s (d ∷ es) e legal =
    let rest = record-front (after_event s d) es e legal.1 in ((legal.0, rest.0), rest.1)
