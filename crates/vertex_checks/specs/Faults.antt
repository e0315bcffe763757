-- The faults of a pattern: at which vertices there are which, in which order, and all of them as a list.
use Rattle.std.specs.Prelude.{◌≡◌, ◌↔◌, ℕ, ◌+◌, ◌-◌, ◌<◌, ◌≤◌, ◌==◌, nat_lt, Bool, ◌&&◌, ◌||◌, List, [], ◌∷◌, ◌++◌, length, map, flat_map, Contains, if◌then◌else◌}
use Rattle.std.specs.List.{list_any, range_with_len}
use Rattle.std.specs.List.Sorted.{IsStrictlySortedBy}
use Rattle.std.specs.Ordering.{ordering_then, nat_cmp}
use Rattle.std.specs.declared.cmp.Ordering.{Ordering}
use Rattle.plane_geometry.specs.declared.Point.{Point}
use Rattle.plane_geometry.specs.declared.Dir.{Dir}
use Rattle.plane_geometry.specs.DirView.{dir_number}
use Rattle.plane_geometry.specs.Position.{position_of, compare_positions}
use Rattle.crease_model.specs.declared.Kind.TheVariants.{Mountain, Valley, Unassigned}
use Rattle.crease_model.specs.View.{PatternView}
use Rattle.isometry_map.specs.Linear.{rotation}
use Rattle.vertex_checks.specs.declared.fans.Ray.{Ray}
use Rattle.vertex_checks.specs.declared.faults.LocalFault.{LocalFault}
use Rattle.vertex_checks.specs.declared.faults.LocalFault.TheVariants.{Kawasaki, Maekawa, BigLittleBig}
use Rattle.vertex_checks.specs.declared.faults.VertexFault.{VertexFault}
use Rattle.vertex_checks.specs.Vertices.{IsInnerEnd, vertices_of}
use Rattle.vertex_checks.specs.Fan.{IsFan, fan_of}
use Rattle.vertex_checks.specs.Sectors.{ray_in, around, sector_at, reflected_from, ComesRound, IsStraight, count_of_kind, IsUnbalanced, fold_one_way, IsSmallSector}

-- ---- which

-- v is a vertex strictly inside the sheet, and the fan of its creases is so
abbrev pub HasInnerFan : PatternView → Point → (List Ray → Type 0) → Type 0
HasInnerFan pattern v IsSo = IsInnerEnd pattern v × ((fan : List Ray) × IsFan pattern.pieces v fan × IsSo fan)

-- there are four creases at least, and a small sector that begins in direction d
abbrev pub HasSmallSector : List Ray → Dir → Type 0
HasSmallSector fan d =
    (4 ≤ length fan) × ((k : ℕ) × (k < length fan) × IsSmallSector fan k × (d ≡ (ray_in fan k).dir))

-- the creases of a fan have this fault
abbrev pub Breaks : List Ray → LocalFault → Type 0
Breaks fan Kawasaki = ¬ ComesRound fan
Breaks fan (Maekawa m v u) = IsUnbalanced fan m v u
Breaks fan (BigLittleBig d) = HasSmallSector fan d

abbrev pub IsFault : PatternView → VertexFault → Type 0
IsFault pattern f = HasInnerFan pattern f.vertex (λ fan. Breaks fan f.fault)

-- Kawasaki's theorem in angles: the fault is at just those inner vertices where the number of creases is odd, or every
-- other sector doesn't add to 180 degrees
abbrev pub KawasakiIsByAngles : PatternView → List VertexFault → Type 0
KawasakiIsByAngles pattern faults =
    (v : Point)
    → Contains faults (record { vertex = v; fault = Kawasaki })
    ↔ HasInnerFan pattern v (λ fan. ¬ IsStraight fan)

-- ---- in which order

abbrev pub variant_number : LocalFault → ℕ
variant_number Kawasaki = 0
variant_number (Maekawa m v u) = 1
variant_number (BigLittleBig d) = 2

-- of a small sector
abbrev pub fault_direction : LocalFault → ℕ
fault_direction Kawasaki = 0
fault_direction (Maekawa m v u) = 0
fault_direction (BigLittleBig d) = dir_number d

-- by variant, then by direction
abbrev pub compare_local : LocalFault → LocalFault → Ordering
compare_local f g =
    ordering_then (nat_cmp (variant_number f) (variant_number g))
    (nat_cmp (fault_direction f) (fault_direction g))

-- by vertex, then by variant, then by direction
abbrev pub compare_faults : VertexFault → VertexFault → Ordering
compare_faults f g =
    ordering_then (compare_positions (position_of f.vertex) (position_of g.vertex))
    (compare_local f.fault g.fault)

-- each fault stands before all later ones, so it is there once
abbrev pub IsInOrder : List VertexFault → Type 0
IsInOrder faults = IsStrictlySortedBy compare_faults faults

-- ---- as a list

abbrev pub comes_round : List Ray → Bool
comes_round fan = reflected_from fan (rotation 0) == rotation 0

abbrev pub kawasaki_faults : List Ray → List LocalFault
kawasaki_faults fan = if comes_round fan then [] else Kawasaki ∷ []

abbrev pub differ_by_two : ℕ → ℕ → Bool
differ_by_two m v = m == v + 2 || v == m + 2

-- with x of the u unassigned creases as mountains
abbrev pub balances : ℕ → ℕ → ℕ → ℕ → Bool
balances m v u x = differ_by_two (m + x) (v + (u - x))

-- with some x from 0 to u
abbrev pub can_balance : ℕ → ℕ → ℕ → Bool
can_balance m v u = list_any (balances m v u) (range_with_len 0 (u + 1))

abbrev pub maekawa_unless_balanced : ℕ → ℕ → ℕ → List LocalFault
maekawa_unless_balanced m v u = if can_balance m v u then [] else Maekawa m v u ∷ []

abbrev pub maekawa_faults : List Ray → List LocalFault
maekawa_faults fan =
    maekawa_unless_balanced (count_of_kind Mountain fan) (count_of_kind Valley fan)
    (count_of_kind Unassigned fan)

abbrev pub is_small_sector : List Ray → ℕ → Bool
is_small_sector fan k =
    nat_lt (sector_at fan k) (sector_at fan (k + length fan - 1))
    && (nat_lt (sector_at fan k) (sector_at fan (k + 1))
    && fold_one_way (around fan k).kind (around fan (k + 1)).kind)

abbrev pub little_fault_at : List Ray → ℕ → List LocalFault
little_fault_at fan k = if is_small_sector fan k then BigLittleBig (ray_in fan k).dir ∷ [] else []

-- once around
abbrev pub little_faults : List Ray → List LocalFault
little_faults fan =
    if nat_lt (length fan) 4 then []
    else flat_map (little_fault_at fan) (range_with_len 0 (length fan))

abbrev pub fan_faults : List Ray → List LocalFault
fan_faults fan = kawasaki_faults fan ++ maekawa_faults fan ++ little_faults fan

abbrev pub vertex_fault : Point → LocalFault → VertexFault
vertex_fault v fault = record { vertex = v; fault = fault }

abbrev pub vertex_faults : Point → List LocalFault → List VertexFault
vertex_faults v faults = map (vertex_fault v) faults

abbrev pub faults_at : PatternView → Point → List VertexFault
faults_at pattern v = vertex_faults v (fan_faults (fan_of v pattern.pieces))

unfoldable pub faults_of : PatternView → List VertexFault
faults_of pattern = flat_map (faults_at pattern) (vertices_of pattern)
