use Rattle.std.proofs.Common.{rules}
use Rattle.std.proofs.lemmas.List.Sorted.{IsPartitionPoint-from_clause}
use Rattle.layer_rules.proofs.PairPlaces.{comes_before, partitioned, stands_there}
use Rattle.layer_rules.proofs.places.only_place.Goals as goal

pub returns : goal.returns
returns c =
    let pairs = c.args.pairs.now in
    let i = c.args.i in
    let j = c.args.j in
    let n = c.partition_point.result in
    stands_there i j pairs n c.requires
    (IsPartitionPoint-from_clause (comes_before i j) pairs n c.partition_point.ensures.partitioned
    (partitioned i j pairs c.requires) (λ a r q k. search rules))
