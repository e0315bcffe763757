use Rattle.std.proofs.Common.{◌≡◌, drop}
use Rattle.oriedita_cli.specs.Samples.{first_shape}
use Rattle.oriedita_cli.proofs.samples.first_shape.Given as goal

abbrev pub invariant-loop-event : goal.invariant-loop-event
invariant-loop-event l = first_shape (drop l.event-index l.events) ≡ first_shape l.events
