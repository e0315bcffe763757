use Rattle.std.proofs.Common.{◌≡◌, ◌<◌, length, ap, ap₂, ◌∙◌, sym, subst}
use Rattle.undo_journal.specs.Versions.{JournalView, committed, undone, pattern_at, current_pattern, KeepsPatterns}
use Rattle.undo_journal.specs.JournalLaws.{committed_has, committed_keeps, committed_taken_back}
use Rattle.undo_journal.proofs.Journal.commit.Goals as goal

pub returns-clause-pattern : goal.returns-clause-pattern
returns-clause-pattern c =
    let old = c.args.self.now in
    let made : c.push.new.self ≡ committed old c.args.pattern =
    c.in_ok-push.ensures.ok ∙ ap₂ committed c.next_step.ensures.same c.in_ok-hand.ensures in
    ap₂ pattern_at made (ap (λ (j : JournalView). j.current) (c.self.view_is ∙ made)) ∙ committed_has old c.args.pattern

pub returns-clause-patterns : goal.returns-clause-patterns
returns-clause-patterns c =
    let old = c.args.self.now in
    let made : c.push.new.self ≡ committed old c.args.pattern =
    c.in_ok-push.ensures.ok ∙ ap₂ committed c.next_step.ensures.same c.in_ok-hand.ensures in
    subst (KeepsPatterns old) (sym made) (committed_keeps old c.args.pattern)

pub returns-clause-undone : goal.returns-clause-undone
returns-clause-undone c =
    let old = c.args.self.now in
    let made : c.push.new.self ≡ committed old c.args.pattern =
    c.in_ok-push.ensures.ok ∙ ap₂ committed c.next_step.ensures.same c.in_ok-hand.ensures in
    ap (λ (j : JournalView). current_pattern (undone j)) made
    ∙ committed_taken_back old c.args.pattern (subst (λ n. n < length old.versions) c.current.ensures.value c.current.ensures.exists)
