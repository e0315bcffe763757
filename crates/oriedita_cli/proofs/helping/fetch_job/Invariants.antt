use Rattle.std.proofs.Common.{◌≤◌, ◌+◌, length}
use Rattle.fold_jobs.specs.Waiting.{waiting_in}
use Rattle.oriedita_cli.specs.Serving.{OnlyPosts}
use Rattle.oriedita_cli.specs.Tickets.{IsHelped}
use Rattle.oriedita_cli.proofs.helping.fetch_job.Given as goal

abbrev pub invariant-loop-piece : goal.invariant-loop-piece
invariant-loop-piece g l = record {
  helped : IsHelped (g.H.Helpers.held l.helpers) (g.H.Helpers.given l.helpers) l.session l.tickets;
  goes_on : OnlyPosts l.fn.session l.session;
  misses : g.H.Helpers.misses l.fn.helpers ≤ g.H.Helpers.misses l.helpers;
}

abbrev pub decreases-loop-piece : goal.decreases-loop-piece
decreases-loop-piece g l = length l.tickets.list.items + waiting_in l.session.state.jobs l.fn.job
