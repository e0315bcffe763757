use Rattle.std.proofs.Common.{ap₂, ◌∙◌}
use Rattle.crease_store.specs.Merged.{are_alike, is_loose}
use Rattle.crease_store.proofs.Searching.{only_arrival}
use Rattle.crease_store.proofs.merging.loose.Goals as goal

pub returns : goal.returns
unfolding is_loose
returns c =
    c.both_alike.ensures ∙ ap₂ are_alike (c.only_at.ensures ∙ only_arrival c.args.pieces.now c.args.arrivals.now c.args.v.now c.requires) c.only_at-2.ensures
