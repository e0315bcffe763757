use Rattle.std.proofs.Common.{◌≡◌, rules, subst, sym}
use Rattle.crease_model.specs.View.{PatternView}
use Rattle.crease_model.specs.Rules.{IsPattern}
use Rattle.crease_store.specs.Changed.{without_piece}
use Rattle.crease_store.proofs.Changes.{IsPattern-without_piece}
use Rattle.crease_store.proofs.changing.delete_piece.Goals as goal

pub with_pieces-requires : goal.with_pieces-requires
with_pieces-requires c =
    let new : (let p : PatternView = record { corners = c.args.pattern.now.corners; pieces = c.in_ok-without.field-0.items; aux = c.args.pattern.now.aux } in p) ≡ without_piece c.args.pattern.now c.args.from.now c.args.to.now = search rules in
    subst IsPattern (sym new) (IsPattern-without_piece c.args.pattern.now c.args.from.now c.args.to.now c.pieces.ensures.rules)
