-- Faults as text, a line each.
use Rattle.std.specs.Prelude.{ℕ, List, [], ◌++◌, flat_map, nat_eq, if◌then◌else◌, codes, decimal}
use Rattle.plane_geometry.specs.declared.Point.{Point}
use Rattle.plane_geometry.specs.DirView.{dir_number}
use Rattle.cp_text.specs.LineText.{bare_point_text}
use Rattle.vertex_checks.specs.declared.faults.LocalFault.{LocalFault}
use Rattle.vertex_checks.specs.declared.faults.LocalFault.TheVariants.{Kawasaki, Maekawa, BigLittleBig}
use Rattle.vertex_checks.specs.declared.faults.VertexFault.{VertexFault}

-- how many creases are unassigned, where some are
abbrev pub unassigned_text : ℕ → List ℕ
unassigned_text u = if nat_eq u 0 then [] else codes " " ++ decimal u

-- the word, and its numbers
abbrev pub local_text : LocalFault → List ℕ
local_text Kawasaki = codes "kawasaki"
local_text (Maekawa m v u) =
    codes "maekawa " ++ decimal m ++ codes " " ++ decimal v ++ unassigned_text u
local_text (BigLittleBig direction) = codes "biglittlebig " ++ decimal (dir_number direction)

-- both coordinates, each with a space behind it
abbrev pub vertex_text : Point → List ℕ
vertex_text v = bare_point_text v ++ codes " "

abbrev pub fault_text : VertexFault → List ℕ
fault_text f = vertex_text f.vertex ++ local_text f.fault ++ codes "\n"

abbrev pub faults_text : List VertexFault → List ℕ
faults_text faults = flat_map fault_text faults
