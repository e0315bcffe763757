use Rattle.std.proofs.Common.{rules, ◌≡◌, ap, sym, subst, ◌∙◌}
use Rattle.std.specs.Prelude.{IsFalse, unwrap_or}
use Rattle.crease_model.specs.Sheet.{square_corners}
use Rattle.crease_model.specs.View.{PatternView, empty_on}
use Rattle.fold_jobs.specs.Machine.{is_full}
use Rattle.layer_rules.specs.Layering.{IsInstanceFault}
use Rattle.job_register.specs.Edits.{current_pattern_of}
use Rattle.undo_journal.specs.Versions.{JournalView}
use Rattle.job_register.proofs.Told.{state_with, fold_refused}
use Rattle.job_register.proofs.folding.fold.Goals as goal

pub returns-in-Some-clause-ok : goal.returns-in-Some-clause-ok
returns-in-Some-clause-ok g c =
    let journal = c.args.journal.now in
    let room : IsFalse (is_full c.args.jobs.now) = search rules in
    let pattern : c.as_ref.result.now ≡ current_pattern_of journal = c.as_ref.ensures
    ∙ sym (ap (λ o. unwrap_or o (empty_on square_corners)) c.in_ok-pattern.ensures.pattern) in (
      fold_refused (state_with journal c.args.jobs.now) c.in-Err.fault c.in-Some.refusal room
          (subst (λ (p : PatternView). IsInstanceFault p c.in-Err.fault) pattern c.in-Err.ensures.exact)
          (sym c.refusal_of_layers.ensures ∙ c.in-Some.is),
      ap (λ (j : JournalView). state_with j c.args.jobs.now) c.current_pattern.ensures.same,
    )
