use Rattle.job_enumeration.proofs.Shown.{shown-first, no_more-last}
use Rattle.job_enumeration.proofs.Between.{pauses-between}
use Rattle.job_enumeration.proofs.laws.legal_records_enumerate.Goals as goal

pub returns : goal.returns
returns c = λ job version r most es legal.
    let shown = shown-first job version r most es legal in
    let last = no_more-last job version r most es legal in
    record {
      first = shown.0;
      within = shown.1;
      complete = λ before after parts. (last before after parts).0;
      ended = λ before after parts. (last before after parts).1;
      pauses = pauses-between job version r most es legal;
    }
