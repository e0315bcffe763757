use Rattle.std.proofs.Common.{subst}
use Rattle.fold_jobs.specs.Machine.{JobsView}
use Rattle.fold_jobs.specs.Invariant.{HaveTheirNumbers}
use Rattle.fold_jobs.proofs.Places.{live_found, job_in, right_in, answers_in}
use Rattle.fold_jobs.proofs.jobs.Jobs.task.Goals as goal

pub returns-in-Ok-clause-job : goal.returns-in-Ok-clause-job
returns-in-Ok-clause-job c =
    let s = c.args.self.now in
    let j = c.in-Ok.live.now in
    job_in s c.args.job j c.args.piece c.task.result (live_found s c.args.job j c.in-Ok.ensures).0
    (subst (λ (v : JobsView). HaveTheirNumbers v.jobs) c.self.view_is c.self.invariant.numbered)
    c.task.ensures.task

pub returns-in-Ok-clause-right : goal.returns-in-Ok-clause-right
returns-in-Ok-clause-right c =
    let s = c.args.self.now in
    let j = c.in-Ok.live.now in
    right_in s c.args.job j c.args.piece c.task.result (live_found s c.args.job j c.in-Ok.ensures).0
    (subst (λ (v : JobsView). HaveTheirNumbers v.jobs) c.self.view_is c.self.invariant.numbered)
    c.task.ensures.task c.task.ensures.right

pub returns-in-Ok-clause-answers : goal.returns-in-Ok-clause-answers
returns-in-Ok-clause-answers c =
    let s = c.args.self.now in
    let j = c.in-Ok.live.now in
    let found = live_found s c.args.job j c.in-Ok.ensures in
    answers_in s c.args.job j c.args.piece c.task.result found.0 found.1
    (subst (λ (v : JobsView). HaveTheirNumbers v.jobs) c.self.view_is c.self.invariant.numbered)
    c.task.ensures.task c.task.ensures.answers
