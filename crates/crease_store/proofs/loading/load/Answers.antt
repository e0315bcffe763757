use Rattle.crease_store.proofs.Loads.{loaded_where, first_is_refused}
use Rattle.crease_store.proofs.loading.load.Goals as goal

pub returns : goal.returns
returns c =
    let pattern = c.args.pattern.now in
    let lines = c.args.lines.now in
    let result = c.load_lines.result in
    let exact = c.load_lines.ensures in
    record {
      loaded = loaded_where pattern lines result c.sheet.ensures.rules exact;
      refused = first_is_refused pattern lines result c.sheet.ensures.rules exact;
      exact = exact;
    }
