use Rattle.std.specs.Arc.{arc_value}
use Rattle.undo_journal.proofs.StoredVersions.{from_hand}
use Rattle.undo_journal.proofs.steps.pattern_of.Goals as goal

pub returns-then-version-hand_version : goal.returns-then-version-hand_version
returns-then-version-hand_version c =
    from_hand c.args.steps.now c.args.hand_version (arc_value c.args.hand.now) c.requires.stored c.args.version
    c.try_clone.result (λ p. arc_value p) c.try_clone.ensures c.if-version-hand_version.true
