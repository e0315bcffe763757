-- Fans kept in a map by their vertices.
use Rattle.std.specs.Prelude.{List, [], ◌∷◌, ◌++◌, if◌then◌else◌}
use Rattle.std.specs.Option.{option_map_or}
use Rattle.std.specs.HashMap.{HashMap, get}
use Rattle.smallvec.specs.SmallVec.{SmallVec}
use Rattle.plane_geometry.specs.declared.Point.{Point}
use Rattle.line_split.specs.Points.{equal_points}
use Rattle.face_builder.specs.declared.fans.Exit.{Exit}

-- the half-edges that leave v, nothing where the map has no such vertex
abbrev pub exits_in : {S : Type 0} → Point → HashMap Point (SmallVec Exit) S → List Exit
exits_in v fans = option_map_or (λ fan. fan.items) (get equal_points fans v) []

-- those of u, once one more is put in at v
abbrev pub exits_after : {S : Type 0} → Point → HashMap Point (SmallVec Exit) S → Point → Exit → List Exit
exits_after u fans v exit = if equal_points v u then exits_in u fans ++ exit ∷ [] else exits_in u fans
