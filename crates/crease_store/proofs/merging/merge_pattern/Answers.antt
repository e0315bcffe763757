use Rattle.std.proofs.Common.{◌≡◌, rules, subst, sym}
use Rattle.crease_model.specs.View.{PatternView}
use Rattle.crease_model.specs.Rules.{IsPattern}
use Rattle.crease_store.specs.Merged.{merge_of}
use Rattle.crease_store.proofs.Merges.{IsPattern-merge}
use Rattle.crease_store.proofs.merging.merge_pattern.Goals as goal

pub with_pieces-requires : goal.with_pieces-requires
unfolding merge_of
with_pieces-requires c =
    let new : (let p : PatternView = record { corners = c.args.pattern.now.corners; pieces = c.in_ok-merged_pieces.field-0.items; aux = c.args.pattern.now.aux } in p) ≡ merge_of c.args.pattern.now = search rules in
    subst IsPattern (sym new) (IsPattern-merge c.args.pattern.now c.pieces.ensures.rules)
