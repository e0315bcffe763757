use Rattle.std.proofs.Common.{◌≡◌, length, refl, subst, ◌∙◌}
use Rattle.std.specs.Prelude.{IfOk}
use Rattle.std.proofs.lemmas.Option.{slice_get_read}
use Rattle.crease_model.specs.View.{PatternView}
use Rattle.undo_journal.proofs.StoredVersions.{kept_is, changed_is, changed_rules}
use Rattle.undo_journal.proofs.steps.+rebuilt.Goals as goal

pub made-requires : goal.made-requires
made-requires t c =
    let steps = c.args.steps.now in
    let step = c.index-steps-version.result in
    let at = slice_get_read steps (length steps) c.args.version step refl c.requires.exists c.index-steps-version.is in
    changed_rules steps c.args.version step c.in-Changed.change c.in_ok-parent-in-Changed.parent
    c.requires.earlier c.requires.rules at c.in-Changed.is c.in_ok-parent-in-Changed.ensures

pub returns-in-Whole : goal.returns-in-Whole
returns-in-Whole t c =
    let steps = c.args.steps.now in
    let step = c.index-steps-version.result in
    let at = slice_get_read steps (length steps) c.args.version step refl c.requires.exists c.index-steps-version.is in
    let P : PatternView → Type 0 = λ q. IfOk c.copy.result (λ p. p ≡ q) in
    subst P (c.as_ref.ensures ∙ kept_is steps c.args.version step _ c.requires.earlier at c.in-Whole.is)
    c.copy.ensures

pub returns-in_ok-parent-in-Changed : goal.returns-in_ok-parent-in-Changed
returns-in_ok-parent-in-Changed t c =
    let steps = c.args.steps.now in
    let step = c.index-steps-version.result in
    let at = slice_get_read steps (length steps) c.args.version step refl c.requires.exists c.index-steps-version.is in
    let P : PatternView → Type 0 = λ q. IfOk c.made.result (λ p. p ≡ q) in
    subst P
    (changed_is steps c.args.version step c.in-Changed.change c.in_ok-parent-in-Changed.parent
    c.requires.earlier at c.in-Changed.is c.in_ok-parent-in-Changed.ensures) c.made.ensures
