use Rattle.std.proofs.Common.{ℕ, sym, subst}
use Rattle.std.specs.Prelude.{MatchResult, take}
use Rattle.std.specs.Io.KnownBytes.{Appends}
use Rattle.std.proofs.KnownBytes.{Appends-nil}
use Rattle.std.proofs.lemmas.Result.{MatchResult-from_err}
use Rattle.oriedita_cli.specs.declared.errands.Errand.{Errand}
use Rattle.oriedita_cli.specs.Clauses.{written_text}
use Rattle.oriedita_cli.specs.Errands.{sample_of}
use Rattle.oriedita_cli.proofs.Done.{served_or_stopped}
use Rattle.oriedita_cli.proofs.errands.serve_errand.Goals as goal

pub returns-in-Script-clause-written : goal.returns-in-Script-clause-written
returns-in-Script-clause-written g c =
    let t = g.K.Sink.taken c.args.out.now in
    let u = g.K.Sink.taken c.serve_all.new.out in
    let es = c.serve_all.new.session.events in
    subst (λ (e : Errand). MatchResult c.serve_all.result (λ _. Appends t u (written_text (sample_of e) es))
    (λ _. (count : ℕ) × Appends t u (take count (written_text (sample_of e) es)))) (sym c.in-Script.is)
    (served_or_stopped c.serve_all.result c.args.session.now.events es t u _ c.requires.fresh
    c.serve_all.ensures.serves)

pub returns-in_err-fold_sample-in-Sample-clause-written :
    goal.returns-in_err-fold_sample-in-Sample-clause-written
returns-in_err-fold_sample-in-Sample-clause-written g c =
    MatchResult-from_err c.from_residual.result _ _ c.from_residual.ensures.0
    (λ _. (0, Appends-nil (g.K.Sink.taken c.args.out.now)))
