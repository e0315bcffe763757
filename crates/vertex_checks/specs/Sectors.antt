-- The sectors between neighbouring creases of a fan, and what the theorems say of them and of the creases.
use Rattle.std.specs.Prelude.{◌≡◌, ◌⊎◌, ℕ, ◌+◌, ◌-◌, ◌%◌, ◌<◌, ◌≤◌, Bool, ◌&&◌, ◌||◌, List, [], ◌∷◌, length, slice_index_or, IsTrue}
use Rattle.std.specs.List.{count_by}
use Rattle.crease_model.specs.declared.Kind.{Kind}
use Rattle.crease_model.specs.Kind.{is_same_kind}
use Rattle.crease_model.specs.declared.Kind.TheVariants.{Edge, Mountain, Valley, Unassigned}
use Rattle.isometry_map.specs.Linear.{rotation, reflection, composed}
use Rattle.vertex_checks.specs.declared.fans.Ray.{Ray}
use Rattle.vertex_checks.specs.Fan.{ray_number}
use Rattle.plane_geometry.specs.DirView.{dir_of}

-- ---- around a vertex

-- how far it is from one ray to the next, counterclockwise, in steps of 22.5 degrees
abbrev pub sector : Ray → Ray → ℕ
sector q r = (ray_number r + 16 - ray_number q) % 16

abbrev pub no_ray : Ray
no_ray = record { dir = dir_of 0; kind = Edge }

abbrev pub ray_in : List Ray → ℕ → Ray
ray_in fan k = slice_index_or fan k no_ray

-- the k-th ray from the first, round and round
abbrev pub around : List Ray → ℕ → Ray
around fan k = ray_in fan (k % length fan)

-- the sector from the k-th ray to the next
abbrev pub sector_at : List Ray → ℕ → ℕ
sector_at fan k = sector (around fan k) (around fan (k + 1))

-- ---- Kawasaki

-- the linear part done, then the reflections in the lines of the creases, one after the other
abbrev pub reflected_from : List Ray → ℕ → ℕ
reflected_from [] done = done
reflected_from (r ∷ rs) done = reflected_from rs (composed (reflection (ray_number r)) done)

-- they give the identity
abbrev pub ComesRound : List Ray → Type 0
ComesRound fan = reflected_from fan (rotation 0) ≡ rotation 0

-- the sizes of every other sector, from the first, together
abbrev pub every_other : List Ray → ℕ
every_other [] = 0
every_other (q ∷ []) = 0
every_other (q ∷ r ∷ rs) = sector q r + every_other rs

-- the number of creases is even, and every other sector adds to 8 steps, which are 180 degrees
pub record IsStraight (fan : List Ray) : Type 0 where
  pub even : length fan % 2 ≡ 0
  pub half : every_other fan ≡ 8

-- ---- Maekawa

-- how many creases are of this kind
abbrev pub count_of_kind : Kind → List Ray → ℕ
count_of_kind kind fan = count_by (λ r. is_same_kind r.kind kind) fan

abbrev pub DifferByTwo : ℕ → ℕ → Type 0
DifferByTwo m v = (m ≡ v + 2) ⊎ (v ≡ m + 2)

-- there are m mountains, v valleys and u unassigned creases. However many of these, x, fold as mountains and the others
-- as valleys, mountains and valleys don't differ by two
pub record IsUnbalanced (fan : List Ray) (m v u : ℕ) : Type 0 where
  pub mountains : m ≡ count_of_kind Mountain fan
  pub valleys : v ≡ count_of_kind Valley fan
  pub unassigned : u ≡ count_of_kind Unassigned fan
  pub never : (x : ℕ) → x ≤ u → ¬ DifferByTwo (m + x) (v + (u - x))

-- ---- big-little-big

-- both are mountains, or both are valleys
abbrev pub fold_one_way : Kind → Kind → Bool
fold_one_way q r =
    (is_same_kind q Mountain && is_same_kind r Mountain) || (is_same_kind q Valley && is_same_kind r Valley)

-- the sector from the k-th crease is smaller than the one before it and than the one after it, and both its creases are
-- mountains, or both are valleys
pub record IsSmallSector (fan : List Ray) (k : ℕ) : Type 0 where
  pub before : sector_at fan k < sector_at fan (k + length fan - 1)
  pub after : sector_at fan k < sector_at fan (k + 1)
  pub alike : IsTrue (fold_one_way (around fan k).kind (around fan (k + 1)).kind)
