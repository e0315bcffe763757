use Rattle.std.proofs.Common.{◌≡◌, ◌≤◌, ◌++◌, IsTrue}
use Rattle.std.specs.List.{list_all}
use Rattle.script_lang.specs.Script.{meets_condition}
use Rattle.oriedita_cli.specs.Serving.{Serves}
use Rattle.oriedita_cli.specs.Tickets.{AreMisses, IsHelped}
use Rattle.oriedita_cli.proofs.serving.serve_all.Given as goal

abbrev pub invariant-loop-command : goal.invariant-loop-command
invariant-loop-command g l = record {
  split : l.fn.commands.items ≡ l.yielded ++ l.command-iterator.rest.items;
  condition : IsTrue (list_all meets_condition l.command-iterator.rest.items);
  served : Serves l.fn.session.events l.session.events (g.K.Sink.taken l.fn.out) (g.K.Sink.taken l.out) l.yielded;
  most : l.session.state.jobs.most ≡ l.fn.session.state.jobs.most;
  helped : IsHelped (g.H.Helpers.held l.helpers) (g.H.Helpers.given l.helpers) l.session l.tickets;
  misses : g.H.Helpers.misses l.fn.helpers ≤ g.H.Helpers.misses l.helpers;
  running : AreMisses (g.H.Helpers.misses l.fn.helpers) (g.H.Helpers.misses l.helpers) l.fn.session.events
      l.session.events;
  faults : g.K.Sink.faults l.out ≡ g.K.Sink.faults l.fn.out;
}
