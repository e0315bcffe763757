use Rattle.std.proofs.Common.{◌≡◌, ◌+◌, ◌≤◌, drop}
use Rattle.oriedita_cli.specs.Samples.{orders_shown}
use Rattle.oriedita_cli.proofs.samples.orders_shown.Given as goal

abbrev pub invariant-loop-event : goal.invariant-loop-event
invariant-loop-event l = record {
  rest : l.orders + orders_shown (drop l.event-index l.events) ≡ orders_shown l.events;
  few : l.orders ≤ l.event-index;
}
