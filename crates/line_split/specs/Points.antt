-- Points in ascending order, each once.
use Rattle.std.specs.Prelude.{Bool, true, ◌&&◌, List, [], ◌∷◌, Contains, IsTrue}
use Rattle.std.specs.Ordering.{is_lt}
use Rattle.std.specs.declared.cmp.Ordering.{Ordering}
use Rattle.std.specs.declared.cmp.Ordering.TheVariants.{Less, Equal, Greater}
use Rattle.plane_geometry.specs.declared.Point.{Point}
use Rattle.plane_geometry.specs.contracts.PointPartialEq.TheImpl as point_eq
use Rattle.plane_geometry.specs.Position.{Position, position_of, compare_positions, is_same_position}

-- each point stands before the next
abbrev pub is_rising : List Point → Bool
is_rising [] = true
is_rising (p ∷ []) = true
is_rising (p ∷ q ∷ ps) = is_lt (compare_positions (position_of p) (position_of q)) && is_rising (q ∷ ps)

-- by how one thing compares with another
abbrev pub by_order : {X : Type 0} → Ordering → X → X → X → X
by_order Less less equal greater = less
by_order Equal less equal greater = equal
by_order Greater less equal greater = greater

-- points in ascending order with one more, unless it is there
abbrev pub with_point : List Point → Point → List Point
with_point [] v = v ∷ []
with_point (p ∷ ps) v =
    by_order (compare_positions (position_of v) (position_of p)) (v ∷ p ∷ ps) (p ∷ ps) (p ∷ with_point ps v)

-- with each of these, one after another
abbrev pub with_points : List Point → List Point → List Point
with_points points [] = points
with_points points (v ∷ vs) = with_points (with_point points v) vs

-- the points in ascending order, each once
unfoldable pub in_order : List Point → List Point
in_order points = with_points [] points

-- what `==` of points tells
abbrev pub equal_points : Point → Point → Bool
equal_points = (point_eq.ghosts).eq

-- one of the points is in this place
abbrev pub HasPointAt : List Point → Position → Type 0
HasPointAt points v = (p : Point) × Contains points p × IsTrue (is_same_position v (position_of p))
