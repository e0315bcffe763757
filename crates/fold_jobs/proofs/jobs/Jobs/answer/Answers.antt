use Rattle.std.proofs.Common.{◌≡◌, ◌∙◌, ◌-◌, ap, slice_set, slice_index_or}
use Rattle.fold_jobs.specs.declared.folding_job.FoldingJob.{FoldingJob}
use Rattle.fold_jobs.specs.Machine.{JobsView, answered}
use Rattle.fold_jobs.proofs.Places.{at_place, live_found, answered_is}
use Rattle.fold_jobs.proofs.jobs.Jobs.answer.Goals as goal

pub returns-clause-state : goal.returns-clause-state
returns-clause-state c =
    let s = c.args.self.now in
    let n = c.args.job in
    let j = c.in_ok-live.field-0.now in
    let d = c.index_mut.result.now in
    let found = (live_found s n j c.in_ok-live.ensures).0 in
    let own : d ≡ j =
    c.index_mut.ensures.value
    ∙ ap (λ (v : JobsView). slice_index_or v.jobs (n - 1) d) c.self.view_is
    ∙ (at_place s n j found).is d in
    let with : JobsView → FoldingJob → JobsView = λ v k. record v { jobs = slice_set v.jobs (n - 1) k } in
    ap (λ v. with v c.answer.new.self) c.self.view_is
    ∙ ap (with s) (c.answer.ensures.state ∙ ap (answered c.answer.result) own)
    ∙ answered_is s n j c.answer.result found
