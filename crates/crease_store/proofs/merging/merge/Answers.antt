use Rattle.crease_store.specs.Merged.{IsMerged, is_loose}
use Rattle.std.proofs.Common.{◌≡◌, sym, subst}
use Rattle.std.specs.Prelude.{Contains, IsTrue, IsFalse}
use Rattle.plane_geometry.specs.SegmentView.{stretch_of}
use Rattle.crease_model.specs.declared.Piece.{Piece}
use Rattle.crease_model.specs.View.{PatternView}
use Rattle.crease_store.specs.Added.{covers}
use Rattle.crease_store.proofs.MergeLaws.{merge_joins_chains}
use Rattle.crease_store.proofs.MergeCover.{merge_covers, merge_leaves_none_loose}
use Rattle.crease_store.proofs.merging.merge.Goals as goal

pub returns-clause-merged : goal.returns-clause-merged
returns-clause-merged c =
    let old = c.args.pattern.now in
    subst (IsMerged old) (sym c.in_ok-merge_pattern.ensures.value) (merge_joins_chains old c.in_ok-merge_pattern.ensures.rules)

pub returns-clause-covering : goal.returns-clause-covering
returns-clause-covering c =
    λ z there.
    let old = c.args.pattern.now in
    subst (λ (new : PatternView). (q : Piece) × Contains new.pieces q × IsTrue (covers (stretch_of q.segment) (stretch_of z.segment)) × (q.kind ≡ z.kind)) (sym c.in_ok-merge_pattern.ensures.value)
    (merge_covers old z c.in_ok-merge_pattern.ensures.rules there)

pub returns-clause-none_loose : goal.returns-clause-none_loose
returns-clause-none_loose c =
    λ v.
    let old = c.args.pattern.now in
    subst (λ (new : PatternView). IsFalse (is_loose new.pieces v)) (sym c.in_ok-merge_pattern.ensures.value) (merge_leaves_none_loose old v c.in_ok-merge_pattern.ensures.rules)
