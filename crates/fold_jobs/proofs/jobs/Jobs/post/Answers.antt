use Rattle.std.proofs.Common.{◌≡◌, ◌∙◌, ◌+◌, ◌-◌, sym, ap, subst, slice_set, slice_index_or}
use Rattle.worker_split.specs.Job.{IsTaken}
use Rattle.worker_split.specs.Waiting.{waiting}
use Rattle.fold_jobs.specs.declared.folding_job.FoldingJob.{FoldingJob}
use Rattle.fold_jobs.specs.Machine.{JobsView, IsPosted}
use Rattle.fold_jobs.specs.Waiting.{waiting_in}
use Rattle.fold_jobs.proofs.Places.{at_place, posted_is}
use Rattle.fold_jobs.proofs.FewerTasks.{fewer_wait}
use Rattle.fold_jobs.proofs.jobs.Jobs.post.Goals as goal

pub returns : goal.returns
returns c =
    let s = c.args.self.now in
    let x = c.args.outcome in
    let j = c.in-Some.job.now in
    let d = c.index_mut.result.now in
    let own : d ≡ j =
    c.index_mut.ensures.value
    ∙ ap (λ (v : JobsView). slice_index_or v.jobs (x.job - 1) d) c.self.view_is
    ∙ (at_place s x.job j c.in-Some.ensures).is d in
    let with : JobsView → FoldingJob → JobsView = λ v k.
    record v { jobs = slice_set v.jobs (x.job - 1) (record k { state = c.accept.new.self }) } in
    let state = ap (λ v. with v d) c.self.view_is ∙ ap (with s) own in
    record {
      posted = subst (IsPosted s x c.accept.result) (sym state)
          (posted_is s x j c.accept.result c.accept.new.self c.in-Some.ensures c.if-job.false
          (subst (λ (k : FoldingJob). IsTaken k.state x c.accept.result c.accept.new.self) own
          c.accept.ensures.taken));
      fewer = λ accepted. subst (λ v. waiting_in s x.job ≡ waiting_in v x.job + 1) (sym state)
          (fewer_wait s x.job j c.accept.new.self c.in-Some.ensures c.if-job.false
          (subst (λ (k : FoldingJob). waiting k.state ≡ waiting c.accept.new.self + 1) own
          (c.accept.ensures.fewer accepted)));
    }
