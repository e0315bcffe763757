use Rattle.std.proofs.Common.{◌+◌, ◌<◌, length, rules}
use Rattle.surd_number.specs.Value.{wide_number_of}
use Rattle.open_region.specs.EdgeView.{line_offset_of}
use Rattle.open_region.proofs.Steps.{and_iff}
use Rattle.open_region.proofs.Heights.{across_is, edge_read}
use Rattle.open_region.proofs.Region.crossed_at.Goals as goal

pub returns-in-Some : goal.returns-in-Some
returns-in-Some c =
    let r = c.args.self.now in
    let inside : c.args.k + 8 < length r.edges = search rules in
    λ y. and_iff (c.narrowed.ensures y)
    (across_is r c.args.n (line_offset_of c.args.right.now) c.args.k c.in-Some.left
    (wide_number_of c.risen.result.now) (wide_number_of c.risen-in-Some.result.now) y
    (edge_read r (c.args.k + 8) c.in-Some.left c.index-self-k.result inside c.in-Some.is)
    c.risen.ensures.value c.risen-in-Some.ensures.value)
