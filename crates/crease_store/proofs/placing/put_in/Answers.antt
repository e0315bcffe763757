use Rattle.std.proofs.Common.{◌++◌, List, ap, sym, ◌∙◌}
use Rattle.crease_model.specs.declared.Piece.{Piece}
use Rattle.crease_store.proofs.InOneWalk.{never_descends_rest, if_ok_then, gives_way, left_up, walked_on}
use Rattle.crease_store.proofs.placing.put_in.Goals as goal

pub returns-then-begins_on-clause-value : goal.returns-then-begins_on-clause-value
returns-then-begins_on-clause-value c =
    ap (λ (l : List Piece). c.args.all.now.items ++ l) (gives_way c.args.pieces.now c.args.new.now c.args.later.now (sym c.begins_on.ensures ∙ c.if-begins_on.true))

pub returns-clause-value : goal.returns-clause-value
returns-clause-value c =
    let others = c.args.all.now.items in
    let apart = sym c.begins_on.ensures ∙ c.if-begins_on.false in
    if_ok_then c.push_new.result _ _
    (λ left put. walked_on others c.args.pieces.now c.args.new.now c.push_new.new.all.items left.now c.args.later.now put c.requires.up c.requires.order apart)
    c.push_new.ensures

pub returns-clause-up : goal.returns-clause-up
returns-clause-up c =
    let others = c.args.all.now.items in
    if_ok_then c.push_new.result _ _
    (λ left put. left_up others c.args.pieces.now c.args.new.now c.push_new.new.all.items left.now c.args.later.now put c.requires.up) c.push_new.ensures

pub returns-then-begins_on-clause-order : goal.returns-then-begins_on-clause-order
returns-then-begins_on-clause-order c = never_descends_rest c.args.new.now c.args.later.now c.requires.order

pub returns-clause-order : goal.returns-clause-order
returns-clause-order c = if_ok_then c.push_new.result _ _ (λ left put. never_descends_rest c.args.new.now c.args.later.now c.requires.order) c.push_new.ensures
