-- How many faults a pattern has at most.
use Rattle.std.proofs.Common.{ℕ, ◌+◌, ◌*◌, ◌^◌, ◌≤◌, ◌<◌, true, false, cond, List, [], ◌∷◌, ◌++◌, length, flat_map, arith}
use Rattle.std.specs.Prelude.{Option, None, Some, nat_lt}
use Rattle.std.specs.List.{range_with_len}
use Rattle.std.proofs.lemmas.List.{length-append, length-map}
use Rattle.std.proofs.lemmas.List.FromFn.{length-range_with_len}
use Rattle.crease_model.specs.declared.Kind.TheVariants.{Mountain, Valley, Unassigned}
use Rattle.plane_geometry.specs.declared.Point.{Point}
use Rattle.plane_geometry.specs.Position.{position_of}
use Rattle.plane_geometry.specs.SegmentView.{lesser_end, greater_end}
use Rattle.crease_model.specs.declared.Piece.{Piece}
use Rattle.crease_model.specs.Sheet.{place_of}
use Rattle.crease_model.specs.View.{PatternView}
use Rattle.crease_model.specs.Rules.{most_pieces, IsPattern}
use Rattle.line_split.specs.Points.{with_point}
use Rattle.line_split.specs.LengthLaws.{with_point_length, flat_map_length}
use Rattle.vertex_checks.specs.declared.fans.Ray.{Ray}
use Rattle.vertex_checks.specs.declared.faults.LocalFault.TheVariants.{Kawasaki, Maekawa, BigLittleBig}
use Rattle.vertex_checks.specs.Vertices.{is_inside, with_inner, with_inner_ends, vertices_from, vertices_of}
use Rattle.vertex_checks.specs.Fan.{ray_number, ray_at, with_ray, with_ray_if, fan_from, fan_of}
use Rattle.vertex_checks.specs.Sectors.{ray_in, count_of_kind}
use Rattle.vertex_checks.specs.Faults.{comes_round, kawasaki_faults, can_balance, maekawa_faults, is_small_sector, little_fault_at, little_faults, fan_faults, vertex_fault, faults_at, faults_of}

-- ---- vertices

inner_length : (corners points : List Point) (v : Point)
    → length (with_inner corners points v) ≤ length points + 1
inner_length corners points v =
    elim (is_inside (place_of corners (position_of v))) as
    (λ b. length (cond b (with_point points v) points) ≤ length points + 1)
    [ true ↦ with_point_length points v | false ↦ omega arith ]

vertices_from_length : (corners : List Point) (pieces : List Piece) (points : List Point)
    → length (vertices_from corners pieces points) ≤ length points + 2 * length pieces
vertices_from_length corners [] points = omega arith
vertices_from_length corners (p ∷ ps) points =
    omega (
      arith,
      vertices_from_length corners ps (with_inner_ends corners points p),
      inner_length corners points (lesser_end p.segment),
      inner_length corners (with_inner corners points (lesser_end p.segment)) (greater_end p.segment),
    )

-- ---- fans

with_ray_length : (rays : List Ray) (r : Ray) → length (with_ray rays r) ≤ length rays + 1
with_ray_length [] r = omega arith
with_ray_length (q ∷ qs) r =
    let more = with_ray_length qs r in
    elim (nat_lt (ray_number r) (ray_number q)) as
    (λ b. length (cond b (r ∷ q ∷ qs) (q ∷ with_ray qs r)) ≤ length (q ∷ qs) + 1)
    [ true ↦ omega arith | false ↦ omega (arith, more) ]

with_ray_if_length : (rays : List Ray) (o : Option Ray) → length (with_ray_if rays o) ≤ length rays + 1
with_ray_if_length rays None = omega arith
with_ray_if_length rays (Some r) = with_ray_length rays r

fan_from_length : (v : Point) (pieces : List Piece) (rays : List Ray)
    → length (fan_from v pieces rays) ≤ length rays + length pieces
fan_from_length v [] rays = omega arith
fan_from_length v (p ∷ ps) rays =
    omega (arith, fan_from_length v ps (with_ray_if rays (ray_at v p)), with_ray_if_length rays (ray_at v p))

pub fan_length : (v : Point) (pieces : List Piece) → length (fan_of v pieces) ≤ length pieces
unfolding fan_of
fan_length v pieces = omega (arith, fan_from_length v pieces [])

-- ---- faults

little_at_length : (fan : List Ray) (k : ℕ) → length (little_fault_at fan k) ≤ 1
little_at_length fan k =
    elim (is_small_sector fan k) as
    (λ b. length (cond b (BigLittleBig (ray_in fan k).dir ∷ []) []) ≤ 1)
    [ true ↦ omega arith | false ↦ omega arith ]

little_length : (fan : List Ray) → length (little_faults fan) ≤ length fan
little_length fan =
    let places = range_with_len 0 (length fan) in
    let sectors = flat_map_length (little_fault_at fan) 1 (little_at_length fan) places in
    elim (nat_lt (length fan) 4) as
    (λ b. length (cond b [] (flat_map (little_fault_at fan) places)) ≤ length fan)
    [ true ↦ omega arith | false ↦ omega (arith, sectors, length-range_with_len 0 (length fan)) ]

kawasaki_length : (fan : List Ray) → length (kawasaki_faults fan) ≤ 1
kawasaki_length fan =
    elim (comes_round fan) as (λ b. length (cond b [] (Kawasaki ∷ [])) ≤ 1)
    [ true ↦ omega arith | false ↦ omega arith ]

maekawa_length : (fan : List Ray) → length (maekawa_faults fan) ≤ 1
maekawa_length fan =
    let mountains = count_of_kind Mountain fan in
    let valleys = count_of_kind Valley fan in
    let unassigned = count_of_kind Unassigned fan in
    elim (can_balance mountains valleys unassigned) as
    (λ b. length (cond b [] (Maekawa mountains valleys unassigned ∷ [])) ≤ 1)
    [ true ↦ omega arith | false ↦ omega arith ]

fan_faults_length : (fan : List Ray) → length (fan_faults fan) ≤ length fan + 2
fan_faults_length fan =
    omega (
      arith,
      length-append (kawasaki_faults fan ++ maekawa_faults fan) (little_faults fan),
      length-append (kawasaki_faults fan) (maekawa_faults fan),
      kawasaki_length fan,
      maekawa_length fan,
      little_length fan,
    )

faults_at_length : (pattern : PatternView) → length pattern.pieces ≤ most_pieces → (v : Point)
    → length (faults_at pattern v) ≤ 2002
faults_at_length pattern few v =
    omega (
      arith,
      few,
      length-map (fan_faults (fan_of v pattern.pieces)) (vertex_fault v),
      fan_faults_length (fan_of v pattern.pieces),
      fan_length v pattern.pieces,
    )

pub few_faults : (pattern : PatternView) → IsPattern pattern → length (faults_of pattern) < 2 ^ 32
unfolding faults_of
few_faults pattern rules =
    let few : length pattern.pieces ≤ most_pieces = omega (arith, rules.size) in
    let few_vertices : length (vertices_of pattern) ≤ 4000 = omega
    (arith, few, vertices_from_length pattern.corners pattern.pieces []) in
    omega (
      arith,
      few_vertices,
      flat_map_length (faults_at pattern) 2002 (faults_at_length pattern few) (vertices_of pattern),
    )
