use Rattle.std.proofs.Common.{◌<◌, length, rules}
use Rattle.open_region.proofs.Narrowing.{narrowed_in, kept_in}
use Rattle.open_region.proofs.Region.narrow.Goals as goal

pub returns-then-is_tightened : goal.returns-then-is_tightened
returns-then-is_tightened c =
    let r = c.args.self.now in
    let inside : c.args.n < length r.edges = search rules in
    narrowed_in r c.args.n c.args.edge.now c.requires c.is_tightened.result c.if-is_tightened.true
    c.is_tightened.ensures inside

pub returns-else-is_tightened : goal.returns-else-is_tightened
returns-else-is_tightened c =
    kept_in c.args.self.now c.args.n c.args.edge.now c.requires c.is_tightened.result c.if-is_tightened.false
    c.is_tightened.ensures
