use Rattle.std.proofs.Common.{◌∙◌, ap, ap₂, ◌++◌, reverse}
use Rattle.layer_rules.proofs.Convexity.{unturned_directed, turned_directed}
use Rattle.layer_rules.proofs.regions.inside.Goals as goal

pub of_polygon-requires : goal.of_polygon-requires
of_polygon-requires c =
    unturned_directed c.args.face.now c.as_slice.result.now c.requires c.if-not-face.true c.as_slice.ensures

pub of_polygon-requires-2 : goal.of_polygon-requires-2
of_polygon-requires-2 c =
    turned_directed c.args.face.now c.as_slice-3.result.now c.requires c.if-not-face.false
    (c.as_slice-3.ensures.value ∙ c.reverse.ensures.items
    ∙ ap reverse (c.in_ok-extend_from_slice.ensures.items ∙ ap₂ ◌++◌ c.new-corners.ensures.items c.as_slice-2.ensures))
