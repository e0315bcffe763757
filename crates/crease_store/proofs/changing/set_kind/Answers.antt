use Rattle.crease_store.proofs.DeleteLaws.{set_where, not_set_where}
use Rattle.crease_store.proofs.changing.set_kind.Goals as goal

pub returns : goal.returns
returns c =
    let old = c.args.pattern.now in
    let p = c.args.from.now in
    let q = c.args.to.now in
    let result = c.set_between.result in
    let exact = c.set_between.ensures in
    record {
      set = set_where old c.args.kind p q result exact;
      no_such_piece = not_set_where old c.args.kind p q result exact;
      exact = exact;
    }
