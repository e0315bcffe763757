use Rattle.std.proofs.Common.{◌≡◌, ◌++◌, drop}
use Rattle.std.specs.Prelude.{IsTrue}
use Rattle.crease_model.specs.Rules.{is_ascending, segments_of}
use Rattle.crease_store.specs.InOrder.{segment_at, with_all_in_order, never_descends}
use Rattle.crease_store.proofs.placing.merged_in.Given as goal

abbrev pub invariant-loop-i : goal.invariant-loop-i
invariant-loop-i l =
    record {
      value : l.all.items ++ with_all_in_order segment_at l.rest (drop l.i l.news) ≡ with_all_in_order segment_at l.pieces l.news;
      up : IsTrue (is_ascending (segments_of l.rest));
      order : IsTrue (never_descends (drop l.i l.news));
    }
