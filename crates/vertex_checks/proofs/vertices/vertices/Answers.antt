use Rattle.vertex_checks.proofs.SortedVertices.{vertices_are_sorted_ends}
use Rattle.vertex_checks.proofs.vertices.vertices.Goals as goal

pub returns : goal.returns
returns c =
    let ends = c.in_ok-points.points.items in
    let sort = c.sort_unstable.ensures in
    vertices_are_sorted_ends c.args.pattern.now ends c.in_ok-points.ensures c.sort_unstable.new.self.items
    c.dedup.new.self.items sort.permutation sort.sorted c.dedup.ensures.filtered
