use Rattle.std.proofs.Common.{◌≡◌, ◌++◌, drop, flat_map}
use Rattle.vertex_checks.specs.Vertices.{inner_ends, inner_ends_of}
use Rattle.vertex_checks.proofs.vertices.all_inner_ends.Given as goal

abbrev pub invariant-loop-piece : goal.invariant-loop-piece
invariant-loop-piece l =
    l.points.items ++ flat_map (inner_ends l.pattern.corners) (drop l.piece-index l.pattern.pieces)
    ≡ inner_ends_of l.pattern
