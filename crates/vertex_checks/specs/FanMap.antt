-- Fans kept by their points.
use Rattle.std.specs.Prelude.{List, []}
use Rattle.std.specs.Option.{option_map_or}
use Rattle.indexmap.specs.IndexMap.{IndexMap, get}
use Rattle.smallvec.specs.SmallVec.{SmallVec}
use Rattle.plane_geometry.specs.declared.Point.{Point}
use Rattle.line_split.specs.Points.{equal_points}
use Rattle.vertex_checks.specs.declared.fans.Ray.{Ray}

-- the rays that are kept for a point, none where it has no entry
abbrev pub kept_fan : {S : Type 0} → IndexMap Point (SmallVec Ray) S → Point → List Ray
kept_fan fans v = option_map_or (λ fan. fan.items) (get equal_points fans v) []
