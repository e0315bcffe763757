use Rattle.std.proofs.Common.{ap, sym, ◌∙◌}
use Rattle.std.specs.Ordering.{is_eq}
use Rattle.undo_journal.proofs.Same.{same_segments}
use Rattle.undo_journal.proofs.edits.SegmentElement.same.Goals as goal

pub returns : goal.returns
returns c = λ h. same_segments _ _ (sym (c.is_eq.ensures ∙ ap is_eq c.cmp.ensures) ∙ h)
