use Rattle.std.proofs.Common.{List, sym, subst}
use Rattle.std.specs.Prelude.{take}
use Rattle.std.specs.Io.KnownBytes.{Appends}
use Rattle.job_register.specs.declared.session.Event.{Event}
use Rattle.job_register.specs.View.{record_events}
use Rattle.oriedita_cli.specs.Clauses.{written_text}
use Rattle.oriedita_cli.specs.Errands.{sample_of}
use Rattle.oriedita_cli.proofs.Outputs.{finished_output, stopped_output}
use Rattle.oriedita_cli.proofs.Readings.{undone}
use Rattle.oriedita_cli.proofs.errands.do_errand.Goals as goal

pub returns-in_default-clause-done : goal.returns-in_default-clause-done
returns-in_default-clause-done g c =
    undone c.args.errand c.ended_without.result.status (record_events c.ended_without.result.events)
    c.ended_without.ensures.events c.ended_without.ensures.status

pub returns-in-Ok-serve_errand-clause-output : goal.returns-in-Ok-serve_errand-clause-output
returns-in-Ok-serve_errand-clause-output g c =
    let before = g.K.Sink.taken c.args.out.now in
    let after = g.K.Sink.taken c.serve_errand.new.out in
    let sample = sample_of c.args.errand in
    finished_output c.finish.result.status c.serve_errand.new.session.events
    (written_text sample (record_events c.finish.result.events)) before after (g.K.Sink.taken c.finish.new.out)
    (g.K.Sink.finished c.finish.new.out)
    (subst (λ (es : List Event). Appends before after (written_text sample es)) (sym c.finish.ensures.events)
    c.in-Ok-serve_errand.ensures.written)
    c.finish.ensures.bytes c.finish.ensures.status c.finish.ensures.finished

pub returns-clause-output : goal.returns-clause-output
returns-clause-output g c =
    let before = g.K.Sink.taken c.args.out.now in
    let after = g.K.Sink.taken c.serve_errand.new.out in
    let sample = sample_of c.args.errand in
    let front = c.in-Err.ensures.written in
    stopped_output c.stopped.result.status (written_text sample (record_events c.stopped.result.events)) front.0 before
    after (g.K.Sink.finished c.serve_errand.new.out) c.stopped.ensures.status
    (subst (λ (es : List Event). Appends before after (take front.0 (written_text sample es)))
    (sym c.stopped.ensures.events) front.1)
