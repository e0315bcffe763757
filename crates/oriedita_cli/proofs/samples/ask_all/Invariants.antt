use Rattle.std.proofs.Common.{◌≡◌, ℕ, ◌≤◌, ◌-◌, ◌++◌, false}
use Rattle.std.specs.List.{list_any}
use Rattle.fold_jobs.specs.Limits.{most_asks}
use Rattle.job_register.specs.Legal.{commands_in}
use Rattle.oriedita_cli.specs.Samples.{asks_in_turn, ends_asks}
use Rattle.oriedita_cli.specs.Tickets.{AreMisses, IsHelped}
use Rattle.oriedita_cli.proofs.samples.ask_all.Given as goal

abbrev pub invariant-loop : goal.invariant-loop
invariant-loop g l = record {
  helped : IsHelped (g.H.Helpers.held l.helpers) (g.H.Helpers.given l.helpers) l.session l.tickets;
  unended : list_any ends_asks l.session.events ≡ false;
  asks : (asks : ℕ) × (commands_in l.session.events ≡ commands_in l.fn.session.events ++ asks_in_turn asks);
  most : l.session.state.jobs.most ≡ l.fn.session.state.jobs.most;
  misses : g.H.Helpers.misses l.fn.helpers ≤ g.H.Helpers.misses l.helpers;
  running : AreMisses (g.H.Helpers.misses l.fn.helpers) (g.H.Helpers.misses l.helpers) l.fn.session.events
      l.session.events;
}

abbrev pub decreases-loop : goal.decreases-loop
decreases-loop g l = most_asks - l.session.state.jobs.asks
