use Rattle.std.proofs.Common.{rules, ap, sym, ◌∙◌}
use Rattle.std.proofs.lemmas.List.{take_rest}
use Rattle.std.proofs.lemmas.List.Sorted.{IsPartitionPoint-from_clause}
use Rattle.crease_store.specs.Merged.{ends_at}
use Rattle.crease_store.specs.Rising.{end_of, comes_before, first_alone}
use Rattle.crease_store.proofs.Searching.{rising_parts, single_found}
use Rattle.crease_store.proofs.merging.only_at.Goals as goal

pub returns : goal.returns
returns c =
    let pieces = c.args.pieces.now in
    let end = end_of c.args.end in
    let v = c.args.v.now in
    let start = c.partition_point-start.result in
    let parts =
    IsPartitionPoint-from_clause (λ p. comes_before (end p) v) pieces start c.partition_point-start.ensures.partitioned (rising_parts end v pieces c.requires)
    (λ a r q k. search rules) in
    c.alone_at.ensures ∙ ap (first_alone (ends_at end v)) (take_rest pieces start)
    ∙ sym (single_found end v pieces start c.requires c.partition_point-start.ensures.bound parts)
