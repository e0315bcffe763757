use Rattle.std.proofs.Common.{◌≡◌}
use Rattle.oriedita_cli.specs.Tickets.{IsHelped}
use Rattle.oriedita_cli.proofs.helping.put_tasks.Given as goal

abbrev pub invariant-loop-place : goal.invariant-loop-place
invariant-loop-place g l = record {
  helped : IsHelped (g.H.Helpers.held l.helpers) (g.H.Helpers.given l.helpers) l.fn.session l.tickets;
  misses : g.H.Helpers.misses l.helpers ≡ g.H.Helpers.misses l.fn.helpers;
}
