use Rattle.crease_store.proofs.DeleteLaws.{deleted_where, not_deleted_where}
use Rattle.crease_store.proofs.changing.delete.Goals as goal

pub returns : goal.returns
returns c =
    let old = c.args.pattern.now in
    let p = c.args.from.now in
    let q = c.args.to.now in
    let result = c.delete_between.result in
    let exact = c.delete_between.ensures in
    record {
      deleted = deleted_where old p q c.pieces.ensures.rules result exact;
      no_such_piece = not_deleted_where old p q c.pieces.ensures.rules result exact;
      exact = exact;
    }
