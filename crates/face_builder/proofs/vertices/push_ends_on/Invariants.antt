use Rattle.std.proofs.Common.{◌≡◌, ◌++◌, drop}
use Rattle.std.specs.List.{flat_map}
use Rattle.face_builder.specs.Vertices.{ends_between}
use Rattle.face_builder.proofs.vertices.push_ends_on.Given as goal

abbrev pub invariant-loop-piece : goal.invariant-loop-piece
invariant-loop-piece l =
    l.points.items
    ++ flat_map (ends_between (record { start = l.start; end = l.end })) (drop l.piece-index l.pieces)
    ≡ l.initial.points.items ++ flat_map (ends_between (record { start = l.start; end = l.end })) l.pieces
