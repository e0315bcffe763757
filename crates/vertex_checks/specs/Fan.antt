-- The creases that leave a vertex, counterclockwise from direction 0.
use Rattle.std.specs.Prelude.{◌≡◌, ◌↔◌, ◌⊎◌, ℕ, ◌+◌, ◌%◌, ◌≤◌, nat_lt, List, [], ◌∷◌, Option, None, Some, Contains, if◌then◌else◌}
use Rattle.std.specs.List.Sorted.{IsStrictlySortedBy}
use Rattle.std.specs.Ordering.{nat_cmp}
use Rattle.std.specs.declared.cmp.Ordering.{Ordering}
use Rattle.std.proofs.Common.{arith}
use Rattle.plane_geometry.specs.declared.Point.{Point}
use Rattle.plane_geometry.specs.declared.Dir.{Dir}
use Rattle.plane_geometry.specs.DirView.{dir_number, dir_of}
use Rattle.plane_geometry.specs.Position.{position_of, is_same_position}
use Rattle.plane_geometry.specs.SegmentView.{lesser_end, greater_end, direction_number}
use Rattle.crease_model.specs.declared.Piece.{Piece}
use Rattle.vertex_checks.specs.declared.fans.Ray.{Ray}

abbrev pub ray_number : Ray → ℕ
ray_number r = dir_number r.dir

-- of the kind of the piece
abbrev pub ray_of : Piece → ℕ → Ray
ray_of p n = record { dir = dir_of n; kind = p.kind }

-- the piece begins at v and goes on in its direction, or it ends there, and leaves in the opposite one
abbrev pub Leaves : Point → Piece → Ray → Type 0
Leaves v p r =
    ((lesser_end p.segment ≡ v) × (r ≡ ray_of p (direction_number p.segment)))
    ⊎ ((greater_end p.segment ≡ v) × (r ≡ ray_of p (direction_number p.segment + 8)))

abbrev pub compare_rays : Ray → Ray → Ordering
compare_rays q r = nat_cmp (ray_number q) (ray_number r)

-- just the rays in which pieces leave v, by ascending direction, each direction once
pub record IsFan (pieces : List Piece) (v : Point) (fan : List Ray) : Type 0 where
  pub rays : (r : Ray) → Contains fan r ↔ ((p : Piece) × Contains pieces p × Leaves v p r)
  pub order : IsStrictlySortedBy compare_rays fan

-- at most so many creases leave a point: one in each direction
abbrev pub most_rays : ℕ
most_rays = 16

-- ---- the same as a list

-- how the piece leaves v: from its lesser end in its direction, and from its greater one in the opposite direction
abbrev pub ray_at : Point → Piece → Option Ray
ray_at v p =
    if is_same_position (position_of (lesser_end p.segment)) (position_of v)
    then Some (ray_of p (direction_number p.segment))
    else if is_same_position (position_of (greater_end p.segment)) (position_of v)
    then Some (ray_of p (direction_number p.segment + 8))
    else None

-- rays by their directions with one more
abbrev pub with_ray : List Ray → Ray → List Ray
with_ray [] r = r ∷ []
with_ray (q ∷ qs) r = if nat_lt (ray_number r) (ray_number q) then r ∷ q ∷ qs else q ∷ with_ray qs r

abbrev pub with_ray_if : List Ray → Option Ray → List Ray
with_ray_if rays None = rays
with_ray_if rays (Some r) = with_ray rays r

-- the rays with those of these pieces at v
abbrev pub fan_from : Point → List Piece → List Ray → List Ray
fan_from v [] rays = rays
fan_from v (p ∷ ps) rays = fan_from v ps (with_ray_if rays (ray_at v p))

unfoldable pub fan_of : Point → List Piece → List Ray
fan_of v pieces = fan_from v pieces []
