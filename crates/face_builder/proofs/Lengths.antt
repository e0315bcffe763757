-- There are few half-edges.
use Rattle.std.proofs.Common.{◌≡◌, ℕ, ◌+◌, ◌*◌, ◌≤◌, ◌<◌, ◌&&◌, Bool, true, List, [], ◌∷◌, ◌++◌, Option, None, Some, length, map, flat_map, reverse, nat_eq, refl, arith}
use Rattle.std.specs.Prelude.{nat_le, slice_get}
use Rattle.std.specs.List.{AllByRecursion}
use Rattle.std.specs.Ordering.{is_lt}
use Rattle.std.specs.declared.cmp.Ordering.{Ordering}
use Rattle.std.proofs.lemmas.Bool.{cond_both, and_parts, leb-true}
use Rattle.std.proofs.lemmas.List.{length-append, length-reverse, length-map}
use Rattle.plane_geometry.specs.declared.Point.{Point}
use Rattle.plane_geometry.specs.declared.Dir.{Dir}
use Rattle.plane_geometry.specs.SegmentView.{lesser_end, greater_end}
use Rattle.crease_model.specs.declared.Piece.{Piece}
use Rattle.plane_geometry.specs.Polygon.{Side, side_number, sides_from, sides_of}
use Rattle.crease_model.specs.Sheet.{is_sheet}
use Rattle.crease_model.specs.View.{PatternView}
use Rattle.crease_model.specs.Rules.{IsPattern}
use Rattle.face_builder.specs.declared.half_edges.HalfEdge.{HalfEdge}
use Rattle.face_builder.specs.HalfEdge.{compare_half_edges, both_ways, parts_from, side_parts, border_parts, all_half_edges, half_edges_of}
use Rattle.plane_geometry.specs.DirView.{dir_of}
use Rattle.face_builder.specs.Cycle.{next_of, is_leader, rest_from, cycle_from, leaders_from}
use Rattle.face_builder.specs.Faces.{half_edge_in, half_edges_at, led_face, led_faces, faces_among, faces_of, corners_of}
use Rattle.face_builder.specs.Fan.{next_place, nexts_of}
use Rattle.face_builder.specs.MapRules.{most_corners}
use Rattle.face_builder.specs.Shared.{shared_from}
use Rattle.face_builder.specs.Sorted.{sorted_with, sorted_list, others_after, each_once}
use Rattle.face_builder.specs.Vertices.{is_between_corners, point_between, ends_between, vertices_between, vertices_along}
use Rattle.plane_geometry.specs.Position.{compare_points, is_same_point}

module _ {X : Type 0} (compare : X → X → Ordering) where
  length_with : (x : X) (xs : List X) → length (sorted_with compare x xs) ≡ length xs + 1
  length_with x [] = refl
  length_with x (y ∷ ys) =
      cond_both (is_lt (compare y x)) (y ∷ sorted_with compare x ys) (x ∷ y ∷ ys) (λ zs. length zs
      ≡ length (y ∷ ys) + 1)
      (λ e. omega (arith, length_with x ys)) (λ e. omega arith)

  pub length_in_order : (xs : List X) → length (sorted_list compare xs) ≡ length xs
  unfolding sorted_list
  length_in_order [] = refl
  length_in_order (x ∷ xs) = omega (arith, length_with x (sorted_list compare xs), length_in_order xs)

module _ {X : Type 0} (is_same : X → X → Bool) where
  length_others : (x : X) (xs : List X) → length (others_after is_same x xs) ≤ length xs
  length_others x [] = omega arith
  length_others x (y ∷ ys) =
      cond_both (is_same y x) (others_after is_same x ys) (y ∷ others_after is_same y ys) (λ zs. length zs
      ≤ length (y ∷ ys))
      (λ e. omega (arith, length_others x ys)) (λ e. omega (arith, length_others y ys))

  length_once : (xs : List X) → length (each_once is_same xs) ≤ length xs
  length_once [] = omega arith
  length_once (x ∷ xs) = omega (arith, length_others x xs)

length_point : (side : Side) (v : Point) → length (point_between side v) ≤ 1
length_point side v =
    cond_both (is_between_corners side v) (v ∷ []) [] (λ zs. length zs ≤ 1) (λ e. omega arith) (λ e. omega arith)

length_ends : (side : Side) (pieces : List Piece) → length (flat_map (ends_between side) pieces)
    ≤ 2 * length pieces
length_ends side [] = omega arith
length_ends side (p ∷ ps) =
    omega (
      arith,
      length-append (ends_between side p) (flat_map (ends_between side) ps),
      length-append (point_between side (lesser_end p.segment)) (point_between side (greater_end p.segment)),
      length_point side (lesser_end p.segment),
      length_point side (greater_end p.segment),
      length_ends side ps,
    )

length_between : (side : Side) (pieces : List Piece) → length (vertices_between side pieces)
    ≤ 2 * length pieces
length_between side pieces =
    omega (
      arith,
      length_once is_same_point (sorted_list compare_points (flat_map (ends_between side) pieces)),
      length_in_order compare_points (flat_map (ends_between side) pieces),
      length_ends side pieces,
    )

length_along : (side : Side) (pieces : List Piece) → length (vertices_along side pieces) ≤ 2 * length pieces
length_along side pieces =
    cond_both (is_lt (compare_points side.end side.start)) (reverse (vertices_between side pieces))
    (vertices_between side pieces)
    (λ zs. length zs ≤ 2 * length pieces)
    (λ e. omega (arith, length-reverse (vertices_between side pieces), length_between side pieces))
    (λ e. length_between side pieces)

length_parts : (d : Dir) (u : Point) (vs : List Point) → length (parts_from d u vs) ≡ length vs
length_parts d u [] = refl
length_parts d u (v ∷ vs) = omega (arith, length_parts d v vs)

length_side : (pieces : List Piece) (side : Side) → length (side_parts pieces side) ≤ 2 * length pieces + 1
length_side pieces side =
    omega (
      arith,
      length_parts (dir_of (side_number side)) side.start (vertices_along side pieces ++ side.end ∷ []),
      length-append (vertices_along side pieces) (side.end ∷ []),
      length_along side pieces,
    )

length_sides : (pieces : List Piece) (sides : List Side) → length pieces ≤ 2000
    → length (flat_map (side_parts pieces) sides) ≤ length sides * 4001
length_sides pieces [] few = omega arith
length_sides pieces (side ∷ sides) few =
    omega (
      arith,
      few,
      length-append (side_parts pieces side) (flat_map (side_parts pieces) sides),
      length_side pieces side,
      length_sides pieces sides few,
    )

sides_count : (first : Point) (ps : List Point) → length (sides_from first ps) ≡ length ps
sides_count first [] = refl
sides_count first (p ∷ []) = refl
sides_count first (p ∷ q ∷ ps) = omega (arith, sides_count first (q ∷ ps))

corners_count : (corners : List Point) → length (sides_of corners) ≡ length corners
corners_count [] = refl
corners_count (p ∷ ps) = sides_count p (p ∷ ps)

length_ways : (k : ℕ) (ps : List Piece) → length (both_ways k ps) ≡ 2 * length ps
length_ways k [] = refl
length_ways k (p ∷ ps) = omega (arith, length_ways (k + 1) ps)

few_corners : (corners : List Point) → is_sheet corners ≡ true → length corners ≤ 16
unfolding is_sheet
few_corners corners e =
    let a = (and_parts (nat_le 3 (length corners) && nat_le (length corners) 16) _ e).0 in
    leb-true (length corners) 16 (and_parts (nat_le 3 (length corners)) (nat_le (length corners) 16) a).1

half_edges_count : (p : PatternView) → is_sheet p.corners ≡ true → IsPattern p → length (half_edges_of p) ≤ 68016
unfolding half_edges_of
half_edges_count p sheet pattern =
    let few : length p.pieces ≤ 2000 = omega (arith, pattern.size) in
    omega (
      arith,
      few,
      few_corners p.corners sheet,
      corners_count p.corners,
      length_in_order compare_half_edges (all_half_edges p),
      length-append (both_ways 1 p.pieces) (border_parts p.corners p.pieces),
      length_ways 1 p.pieces,
      length_sides p.pieces (sides_of p.corners) few,
    )

pub few_half_edges : (p : PatternView) → is_sheet p.corners ≡ true → IsPattern p → length (half_edges_of p)
    < 4294967295
few_half_edges p sheet pattern = omega (arith, half_edges_count p sheet pattern)

-- ---- there are as many faces at most

leaders_count : (nexts : List ℕ) (i : ℕ) (rest : List ℕ) → length (leaders_from nexts i rest) ≤ length rest
leaders_count nexts i [] = omega arith
leaders_count nexts i (next ∷ rest) =
    cond_both (is_leader nexts i) (i ∷ leaders_from nexts (i + 1) rest) (leaders_from nexts (i + 1) rest)
    (λ zs. length zs ≤ length (next ∷ rest))
    (λ e. omega (arith, leaders_count nexts (i + 1) rest))
    (λ e. omega (arith, leaders_count nexts (i + 1) rest))

pub faces_count : (hs : List HalfEdge) (nexts : List ℕ) → length (led_faces hs nexts) ≤ length nexts
faces_count hs nexts =
    omega (arith, length-map (leaders_from nexts 0 nexts) (led_face hs nexts), leaders_count nexts 0 nexts)

-- ---- and as many corners of a face

rest_count : (nexts : List ℕ) (first : ℕ) (steps : List ℕ) (i : ℕ)
    → length (rest_from nexts first steps i) ≤ length steps
rest_count nexts first [] i = omega arith
rest_count nexts first (step ∷ steps) i =
    cond_both (nat_eq i first) [] (i ∷ rest_from nexts first steps (next_of nexts i))
    (λ zs. length zs ≤ length (step ∷ steps))
    (λ e. omega arith) (λ e. omega (arith, rest_count nexts first steps (next_of nexts i)))

in_place : (o : Option HalfEdge) → length (half_edge_in o) ≤ 1
in_place None = omega arith
in_place (Some h) = omega arith

places_count : (hs : List HalfEdge) (places : List ℕ) → length (half_edges_at hs places) ≤ length places
places_count hs [] = omega arith
places_count hs (i ∷ places) =
    omega (
      arith,
      length-append (half_edge_in (slice_get hs i)) (half_edges_at hs places),
      in_place (slice_get hs i),
      places_count hs places,
    )

led_count : (hs : List HalfEdge) (nexts : List ℕ) (i : ℕ) → length (led_face hs nexts i) ≤ length nexts + 1
unfolding cycle_from
led_count hs nexts i =
    omega (arith, places_count hs (cycle_from nexts i), rest_count nexts i nexts (next_of nexts i))

HasFewCorners : List Point → Type 0
HasFewCorners corners = length corners ≤ most_corners

all_few : (hs : List HalfEdge) (nexts places : List ℕ) → length nexts ≤ 68016
    → AllByRecursion HasFewCorners (map corners_of (map (led_face hs nexts) places))
unfolding HasFewCorners
all_few hs nexts [] few = tt
all_few hs nexts (i ∷ places) few = (
  omega (arith, few, led_count hs nexts i, length-map (led_face hs nexts i) (λ (h : HalfEdge). h.start)),
  all_few hs nexts places few,
)

pub corners_few : (p : PatternView) → is_sheet p.corners ≡ true → IsPattern p
    → AllByRecursion (λ corners. length corners ≤ most_corners) (map corners_of (faces_of p))
unfolding faces_among nexts_of HasFewCorners
corners_few p sheet pattern =
    let hs = half_edges_of p in
    all_few hs (nexts_of hs) (leaders_from (nexts_of hs) 0 (nexts_of hs))
    (omega (arith, half_edges_count p sheet pattern, length-map hs (next_place hs)))

-- ---- and as many shared pieces as pieces

pub shared_count : (faces : List (List HalfEdge)) (k : ℕ) (ps : List Piece)
    → length (shared_from faces k ps) ≡ length ps
shared_count faces k [] = refl
shared_count faces k (p ∷ ps) = omega (arith, shared_count faces (k + 1) ps)
