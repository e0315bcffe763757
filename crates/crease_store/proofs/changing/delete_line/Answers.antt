use Rattle.std.proofs.Common.{◌≡◌, rules, subst, sym}
use Rattle.crease_model.specs.View.{PatternView}
use Rattle.crease_model.specs.Rules.{IsPattern}
use Rattle.crease_store.specs.Changed.{without_line}
use Rattle.crease_store.proofs.Changes.{IsPattern-without_line}
use Rattle.crease_store.proofs.changing.delete_line.Goals as goal

pub with_aux-requires : goal.with_aux-requires
with_aux-requires c =
    let new : (let p : PatternView = record { corners = c.args.pattern.now.corners; pieces = c.args.pattern.now.pieces; aux = c.in_ok-without.field-0.items } in p) ≡ without_line c.args.pattern.now c.args.from.now c.args.to.now = search rules in
    subst IsPattern (sym new) (IsPattern-without_line c.args.pattern.now c.args.from.now c.args.to.now c.aux.ensures.rules)
