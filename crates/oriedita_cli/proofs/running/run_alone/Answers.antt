use Rattle.std.proofs.Common.{ap}
use Rattle.job_register.specs.View.{record_events}
use Rattle.oriedita_cli.specs.declared.starting.Start.TheVariants as start
use Rattle.oriedita_cli.specs.Starting.{MayEnd}
use Rattle.oriedita_cli.proofs.Readings.{cut_is_status}
use Rattle.oriedita_cli.proofs.running.run_alone.Goals as goal

pub returns-in-Cut-clause-status : goal.returns-in-Cut-clause-status
returns-in-Cut-clause-status g c =
    let told = c.do_alone-in-Cut in
    let events = record_events told.result.events in
    let status = c.cut_short.result.status in
    let begun = c.in-Cut.ensures in
    let may : MayEnd (start.Cut c.in-Cut.errand) status events = (
      told.result.status,
      c.cut_short.ensures.status,
      record { done = told.ensures.done; status_is = told.ensures.status },
    ) in
    cut_is_status told.result.status status events (record_events c.cut_short.result.events) _ _ _ _ _ _ _ _
    c.cut_short.ensures.status told.ensures.status (begun.read status events may) (begun.unread status events may)
    begun.rise (ap g.K.Sink.faults (begun.untouched tt)) told.ensures.cause told.ensures.faults_stay
    told.ensures.faults_rise
