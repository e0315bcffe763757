use Rattle.std.proofs.Common.{◌≡◌, ◌↔◌, true, ◌∷◌, ◌+◌, subst}
use Rattle.std.specs.Bool.{IsTrue}
use Rattle.std.specs.List.{list_all}
use Rattle.std.proofs.lemmas.Bool.{and_parts}
use Rattle.plane_geometry.specs.Polygon.{Side, has_direction, is_left_of, is_in_polygon}
use Rattle.plane_geometry.specs.PolygonLaws.{sides_left, next_side_left}
use Rattle.open_region.specs.Region.{IsInRegion}
use Rattle.open_region.proofs.Narrowing.{next_side}
use Rattle.open_region.proofs.Region.of_polygon.Goals as goal

pub loop-i-preserved : goal.loop-i-preserved
loop-i-preserved c =
    let corners = c.args.corners.now in
    let i = c.loop-i.i in
    let s : Side = record { start = c.index-corners-i.result; end = c.next_corner.result.now } in
    let rest = sides_left corners (i + 1) in
    let first : sides_left corners i
    ≡ s ∷ rest = next_side_left corners i s.start s.end c.loop-i-test.true c.index-corners-i.is
    c.next_corner.ensures in
    record {
      directed = (and_parts (has_direction s) (list_all has_direction rest)
          (subst (λ sides. list_all has_direction sides ≡ true) first c.loop-i.invariant.directed)).1;
      narrowed = λ q.
          next_side (is_left_of q s) (list_all (is_left_of q) rest)
          (subst (λ sides. (IsInRegion q c.loop-i.region × IsTrue (list_all (is_left_of q) sides))
          ↔ IsTrue (is_in_polygon corners q)) first (c.loop-i.invariant.narrowed q))
          (c.narrow_to_side.ensures q);
    }
