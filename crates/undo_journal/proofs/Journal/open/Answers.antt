use Rattle.std.proofs.Common.{rules, ◌≡◌, ◌≤◌, [], ◌∷◌, length, vec_capacity, refl, ap, ◌∙◌, sym, subst}
use Rattle.std.specs.Arc.{arc_value}
use Rattle.crease_model.specs.Rules.{IsPattern, size_of}
use Rattle.undo_journal.specs.declared.steps.Kept.TheVariants.{Whole}
use Rattle.undo_journal.specs.declared.steps.Step.{Step}
use Rattle.undo_journal.specs.Versions.{new_journal}
use Rattle.undo_journal.proofs.Committing.{opened_fields, opened_journal, opened_stored}
use Rattle.undo_journal.proofs.Journal.open.Goals as goal

pub invariant_of-result : goal.invariant_of-result
invariant_of-result c =
    let p = arc_value c.in_ok-hand.hand in
    let first : Step = record { parent = 0; depth = 0; size = c.size-size.result; kept = Whole c.in_ok-try_clone.field-0 }
    in
    let pushed : c.push.new.self.items ≡ first ∷ [] = search rules in
    let room : length c.push.new.self.items ≤ vec_capacity c.in_ok-redo.redo = search rules in (
      opened_journal p first refl (λ q. c.in_ok-try_clone.ensures) _ pushed _ c.in_ok-redo.ensures.items,
      room,
      opened_stored p first refl (λ q. c.in_ok-try_clone.ensures) _ pushed _ c.in_ok-redo.ensures.items
          (c.size-size.ensures.value ∙ ap size_of (sym c.in_ok-hand.ensures))
          (subst IsPattern (sym c.in_ok-hand.ensures) c.pieces.ensures.rules) (λ n. tt),
    )

pub returns : goal.returns
returns c =
    let p = arc_value c.in_ok-hand.hand in
    let first : Step = record { parent = 0; depth = 0; size = c.size-size.result; kept = Whole c.in_ok-try_clone.field-0 }
    in
    let pushed : c.push.new.self.items ≡ first ∷ [] = search rules in
    opened_fields p first refl (λ q. c.in_ok-try_clone.ensures) _ pushed _ c.in_ok-redo.ensures.items
    ∙ ap new_journal c.in_ok-hand.ensures
