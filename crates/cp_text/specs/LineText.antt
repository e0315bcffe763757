-- Crease lines and patterns as text.
use Rattle.std.specs.Prelude.{ℕ, List, [], ◌∷◌, ◌++◌, map, flat_map, codes}
use Rattle.surd_number.specs.declared.Surd.{Surd}
use Rattle.surd_number.specs.Value.{number_of}
use Rattle.plane_geometry.specs.declared.Point.{Point}
use Rattle.crease_model.specs.declared.Kind.{Kind}
use Rattle.crease_model.specs.declared.Kind.TheVariants.{Edge, Mountain, Valley, Aux, Unassigned}
use Rattle.crease_model.specs.View.{PatternView}
use Rattle.crease_model.specs.OwnLines.{PlainLine, own_lines}
use Rattle.cp_text.specs.declared.line.CpLine.{CpLine}
use Rattle.cp_text.specs.NumberText.{number_text}

-- the digit of a kind
abbrev pub kind_digit : Kind → ℕ
kind_digit Edge = 49
kind_digit Mountain = 50
kind_digit Valley = 51
kind_digit Aux = 52
kind_digit Unassigned = 53

-- a space and a number
abbrev pub coordinate_text : Surd → List ℕ
coordinate_text n = 32 ∷ number_text (number_of n)

abbrev pub point_text : Point → List ℕ
point_text p = coordinate_text p.x ++ coordinate_text p.y

-- the two coordinates alone, parted by a space
abbrev pub bare_point_text : Point → List ℕ
bare_point_text p = number_text (number_of p.x) ++ codes " " ++ number_text (number_of p.y)

-- the digit of the kind and the four coordinates, parted by single spaces
abbrev pub line_body : CpLine → List ℕ
line_body line = kind_digit line.kind ∷ point_text line.from ++ point_text line.to

-- with the line feed at its end
unfoldable pub line_text : CpLine → List ℕ
line_text line = line_body line ++ 10 ∷ []

abbrev pub line_between : Kind → Point → Point → CpLine
line_between kind from to = record { kind = kind; from = from; to = to }

-- a line of a pattern as a crease line
abbrev pub crease_line : PlainLine → CpLine
crease_line line = line_between line.kind line.from line.to

-- the sides of the sheet as edges, the pieces and the auxiliary lines, each in order
abbrev pub pattern_lines : PatternView → List CpLine
pattern_lines p = map crease_line (own_lines p)

abbrev pub lines_text : List CpLine → List ℕ
lines_text lines = flat_map line_text lines

abbrev pub pattern_text : PatternView → List ℕ
pattern_text p = lines_text (pattern_lines p)
