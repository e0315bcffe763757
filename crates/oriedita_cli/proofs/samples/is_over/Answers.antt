use Rattle.std.proofs.Common.{◌≡◌, ◌-◌, length, Some, sym, ap, ◌∙◌, rules}
use Rattle.std.specs.List.{slice_get}
use Rattle.oriedita_cli.proofs.Sampling.{ends_at, last_tells}
use Rattle.oriedita_cli.proofs.samples.is_over.Goals as goal

pub returns-in-Some : goal.returns-in-Some
returns-in-Some c =
    let es = c.args.session.now.events in
    let last : slice_get es (length es - 1) ≡ Some c.in-Some.event.now = search rules in
    c.ends_asks.ensures ∙ sym (ap ends_at last) ∙ sym (last_tells es c.requires)
