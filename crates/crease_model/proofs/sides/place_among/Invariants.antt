use Rattle.std.proofs.Common.{◌≡◌, ◌&&◌, drop}
use Rattle.std.specs.List.{list_all, list_any}
use Rattle.plane_geometry.specs.Position.{position_of}
use Rattle.crease_model.specs.KnownSide.{is_left_of_known, is_right_of_known}
use Rattle.crease_model.proofs.sides.place_among.Given as goal

abbrev pub invariant-loop-side : goal.invariant-loop-side
invariant-loop-side l = record {
  right : list_any (is_right_of_known (position_of l.p)) (drop l.side-index l.sides)
      ≡ list_any (is_right_of_known (position_of l.p)) l.sides;
  left : (l.inside && list_all (is_left_of_known (position_of l.p)) (drop l.side-index l.sides))
      ≡ list_all (is_left_of_known (position_of l.p)) l.sides;
}
