use Rattle.std.proofs.Common.{◌≡◌, true, false, rules}
use Rattle.std.proofs.lemmas.List.Sorted.{IsPartitionPoint-from_clause}
use Rattle.std.specs.List.Sorted.{IsPartitionPoint}
use Rattle.plane_geometry.specs.SegmentView.{greater_end}
use Rattle.crease_model.specs.declared.Piece.{Piece}
use Rattle.crease_store.proofs.Reach.{begins_in_reach, reach_cuts, reach_touched, reach_others}
use Rattle.crease_store.specs.Rising.{beginning_of}
use Rattle.crease_store.proofs.Searching.{ascending_rises, within_parts}
use Rattle.crease_store.proofs.adding.reach_of.Goals as goal

pub returns : goal.returns
returns c =
    let xs = c.args.pieces.now in
    let s = c.args.s.now in
    let i = c.partition_point.result in
    let parts : IsPartitionPoint (λ (p : Piece). begins_in_reach s p ≡ true) (λ (p : Piece). begins_in_reach s p ≡ false) xs i =
    IsPartitionPoint-from_clause (λ (p : Piece). begins_in_reach s p) xs i c.partition_point.ensures.partitioned
    (within_parts beginning_of (greater_end s) xs (ascending_rises xs c.requires)) (λ a r q k. search rules) in
    record {
      bound = c.partition_point.ensures.bound;
      cuts = reach_cuts s xs i parts;
      touched = reach_touched s xs i parts;
      others = reach_others s xs i parts;
    }
