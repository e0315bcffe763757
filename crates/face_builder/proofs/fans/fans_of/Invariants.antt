use Rattle.std.proofs.Common.{◌≡◌, ◌++◌, drop}
use Rattle.plane_geometry.specs.declared.Point.{Point}
use Rattle.face_builder.specs.Fan.{exits_from, exits_at}
use Rattle.face_builder.specs.FanMap.{exits_in}
use Rattle.face_builder.proofs.fans.fans_of.Given as goal

abbrev pub invariant-loop-i : goal.invariant-loop-i
invariant-loop-i l = (u : Point) → exits_in u l.fans ++ exits_from l.i u (drop l.i l.half_edges)
    ≡ exits_at u l.half_edges
