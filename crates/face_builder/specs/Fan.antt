-- The half-edges that leave a vertex, and the one that goes on round a face.
use Rattle.std.specs.Prelude.{ℕ, ◌+◌, ◌-◌, ◌%◌, List, [], ◌∷◌, map, nat_lt, if◌then◌else◌}
use Rattle.plane_geometry.specs.declared.Point.{Point}
use Rattle.plane_geometry.specs.DirView.{dir_number}
use Rattle.plane_geometry.specs.Position.{position_of, is_same_position}
use Rattle.face_builder.specs.declared.half_edges.HalfEdge.{HalfEdge}
use Rattle.face_builder.specs.declared.fans.Exit.{Exit}

-- the interior angle of a face that comes in by direction n and goes on by direction m, in steps of 22.5
-- degrees: how far m is clockwise from the way back, 1 to 16
abbrev pub interior_angle : ℕ → ℕ → ℕ
interior_angle n m = (n + 23 - m) % 16 + 1

abbrev pub exit_by : ℕ → HalfEdge → Exit
exit_by i h = record { place = i; dir = h.dir }

-- the half-edges that leave v, by their places; the first of the list has the place i
abbrev pub exits_from : ℕ → Point → List HalfEdge → List Exit
exits_from i v [] = []
exits_from i v (h ∷ hs) =
    if is_same_position (position_of h.start) (position_of v) then exit_by i h ∷ exits_from (i + 1) v hs
    else exits_from (i + 1) v hs

unfoldable pub exits_at : Point → List HalfEdge → List Exit
exits_at v hs = exits_from 0 v hs

-- the first clockwise from the way back of direction n
abbrev pub nearer : ℕ → Exit → Exit → Exit
nearer n best e =
    if nat_lt (interior_angle n (dir_number e.dir)) (interior_angle n (dir_number best.dir)) then e else best

abbrev pub nearest_from : ℕ → Exit → List Exit → Exit
nearest_from n best [] = best
nearest_from n best (e ∷ es) = nearest_from n (nearer n best e) es

-- its place; 0 if nothing leaves the vertex
abbrev pub nearest_place : ℕ → List Exit → ℕ
nearest_place n [] = 0
nearest_place n (e ∷ es) = (nearest_from n e es).place

-- the place of the half-edge that goes on from h
abbrev pub next_place : List HalfEdge → HalfEdge → ℕ
next_place hs h = nearest_place (dir_number h.dir) (exits_at h.end hs)

unfoldable pub nexts_of : List HalfEdge → List ℕ
nexts_of hs = map (next_place hs) hs
