use Rattle.std.proofs.Common.{List, ap, ◌∙◌}
use Rattle.crease_model.specs.declared.Piece.{Piece}
use Rattle.crease_store.specs.InOrder.{segment_at, with_all_in_order}
use Rattle.crease_store.proofs.InOneWalk.{if_ok_then, sorted_the_same}
use Rattle.crease_store.proofs.placing.place_pieces.Goals as goal

pub returns : goal.returns
returns c =
    let pieces = c.args.pieces.now in
    let news = c.args.news.items in
    let sorted = c.sort_pieces.new.pieces.items in
    if_ok_then c.merged_in.result _ _
    (λ all e. e ∙ ap (λ (l : List Piece). with_all_in_order segment_at pieces l) c.as_slice.ensures.value
    ∙ sorted_the_same pieces news sorted c.requires.up c.requires.one c.sort_pieces.ensures.same)
    c.merged_in.ensures
