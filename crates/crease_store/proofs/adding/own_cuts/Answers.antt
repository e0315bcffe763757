use Rattle.std.proofs.Common.{◌-◌, List, length, take, drop, rules, sym, subst}
use Rattle.std.specs.List.Sorted.{IsPartitionedBy}
use Rattle.std.proofs.lemmas.List.{take_rest}
use Rattle.std.proofs.lemmas.List.Sorted.{IsPartitionPoint-from_clause}
use Rattle.plane_geometry.specs.declared.Point.{Point}
use Rattle.plane_geometry.specs.SegmentView.{lesser_end, greater_end}
use Rattle.crease_store.specs.Rising.{comes_before}
use Rattle.crease_store.proofs.OwnCuts.{IsPlaceOf, points_part, rest_part, own_cuts_cut}
use Rattle.crease_store.proofs.adding.own_cuts.Goals as goal

pub returns : goal.returns
returns c =
    let p = c.args.piece.now in
    let cuts = c.args.cuts.now in
    let start = c.partition_point-start.result in
    let end = c.partition_point-end.result in
    let rest = take (length cuts - start) (drop start cuts) in
    let first : IsPlaceOf (lesser_end p.segment) cuts start =
    IsPartitionPoint-from_clause (λ (v : Point). comes_before v (lesser_end p.segment)) cuts start c.partition_point-start.ensures.partitioned
    (points_part (lesser_end p.segment) cuts c.requires) (λ a r q k. search rules) in
    let last : IsPlaceOf (greater_end p.segment) rest end =
    IsPartitionPoint-from_clause (λ (v : Point). comes_before v (greater_end p.segment)) rest end c.partition_point-end.ensures.partitioned
    (subst (λ (l : List Point). IsPartitionedBy (λ v. comes_before v (greater_end p.segment)) l) (sym (take_rest cuts start))
    (rest_part (greater_end p.segment) cuts start c.requires)) (λ a r q k. search rules) in
    own_cuts_cut p cuts rest start end first (take_rest cuts start) last
