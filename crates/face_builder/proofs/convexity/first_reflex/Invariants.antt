use Rattle.std.proofs.Common.{◌≡◌, find, drop}
use Rattle.face_builder.specs.Faces.{is_reflex}
use Rattle.face_builder.proofs.convexity.first_reflex.Given as goal

abbrev pub invariant-loop-i : goal.invariant-loop-i
invariant-loop-i l = find (is_reflex l.half_edges) (drop l.i l.half_edges)
    ≡ find (is_reflex l.half_edges) l.half_edges
