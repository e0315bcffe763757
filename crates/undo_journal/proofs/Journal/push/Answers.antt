use Rattle.std.proofs.Common.{rules, ◌≡◌, ◌≤◌, [], ◌∷◌, ◌++◌, length, vec_capacity, ap, ◌∙◌, sym, subst, arith}
use Rattle.std.specs.Arc.{arc_value}
use Rattle.undo_journal.specs.Versions.{JournalView, committed}
use Rattle.undo_journal.specs.Invariant.{IsNextStep}
use Rattle.undo_journal.proofs.Committing.{committed_fields, committed_journal, committed_stored}
use Rattle.undo_journal.proofs.Journal.push.Goals as goal

pub invariant_of-self-2 : goal.invariant_of-self-2
invariant_of-self-2 c =
    let p = arc_value c.args.hand in
    let pushed : c.push.new.self.items ≡ c.self.inside.steps.items ++ c.args.step ∷ [] = search rules in
    let counted : c.len-count.result ≡ length c.self.inside.steps.items = search rules in
    let cleared : c.clear.new.self.items ≡ [] = search rules in
    let room : length c.push.new.self.items ≤ vec_capacity c.clear.new.self = search rules in
    let next : IsNextStep _ p c.args.step =
    subst (λ (j : JournalView). IsNextStep j p c.args.step) (sym c.self.view_is) c.requires.next in (
      committed_journal _ _ _ c.self.invariant.2 _ c.self.inside.redo.items c.self.invariant.0 p c.args.step next _ pushed _ counted _ cleared
          (omega (arith, ap (λ (j : JournalView). length j.versions) c.self.view_is)),
      room,
      committed_stored _ _ _ c.self.invariant.2 _ c.self.inside.redo.items c.self.invariant.0 p c.args.step next _ pushed _ counted _ cleared,
    )

pub returns-clause-ok : goal.returns-clause-ok
returns-clause-ok c =
    let p = arc_value c.args.hand in
    let pushed : c.push.new.self.items ≡ c.self.inside.steps.items ++ c.args.step ∷ [] = search rules in
    let counted : c.len-count.result ≡ length c.self.inside.steps.items = search rules in
    let cleared : c.clear.new.self.items ≡ [] = search rules in
    let next : IsNextStep _ p c.args.step =
    subst (λ (j : JournalView). IsNextStep j p c.args.step) (sym c.self.view_is) c.requires.next in
    committed_fields _ _ _ c.self.invariant.2 _ c.self.inside.redo.items c.self.invariant.0 p c.args.step next _ pushed _ counted _ cleared
    ∙ ap (λ (j : JournalView). committed j p) c.self.view_is
