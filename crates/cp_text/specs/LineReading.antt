-- What the reading of a crease line answers.
use Rattle.std.specs.Prelude.{ℕ, ◌+◌, nat_lt, List, [], ◌∷◌, length, Option, Some, None, Result, Ok, Err, if◌then◌else◌, codes}
use Rattle.std.specs.Str.{bytes_eq}
use Rattle.surd_number.specs.declared.Surd.{Surd}
use Rattle.plane_geometry.specs.declared.Point.{Point}
use Rattle.crease_model.specs.declared.Kind.{Kind}
use Rattle.crease_model.specs.declared.Kind.TheVariants.{Edge, Mountain, Valley, Aux, Unassigned}
use Rattle.cp_text.specs.declared.number_reading.NumberFault.{NumberFault}
use Rattle.cp_text.specs.declared.number_reading.NumberFault.TheVariants as number
use Rattle.cp_text.specs.declared.line.CpLine.{CpLine}
use Rattle.cp_text.specs.declared.line.Ends.{Ends}
use Rattle.cp_text.specs.declared.line.LineFault.{LineFault}
use Rattle.cp_text.specs.declared.line.LineFault.TheVariants.{LongLine, UnknownWord, BadKind, WrongCount, BadNumber, NotExact, OutOfRange}
use Rattle.cp_text.specs.Digits.{is_digits}
use Rattle.cp_text.specs.Words.{longest_line, words_of}
use Rattle.cp_text.specs.NumberReading.{number_read}

-- a number's fault at its place among the words after the first
abbrev pub number_fault_at : ℕ → NumberFault → LineFault
number_fault_at place number.Bad = BadNumber place
number_fault_at place number.NotExact = NotExact place
number_fault_at place number.OutOfRange = OutOfRange place

abbrev pub coordinate_or_fault : ℕ → Result Surd NumberFault → Result Surd LineFault
coordinate_or_fault place (Ok n) = Ok n
coordinate_or_fault place (Err fault) = Err (number_fault_at place fault)

-- the coordinate at a place
abbrev pub coordinate_read : ℕ → List ℕ → Result Surd LineFault
coordinate_read place word = coordinate_or_fault place (number_read word)

abbrev pub point_of : Result Surd LineFault → Result Surd LineFault → Result Point LineFault
point_of (Ok x) (Ok y) = Ok (record { x = x; y = y })
point_of (Ok x) (Err fault) = Err fault
point_of (Err fault) y = Err fault

abbrev pub ends_of : Result Point LineFault → Result Point LineFault → Result Ends LineFault
ends_of (Ok from) (Ok to) = Ok (record { from = from; to = to })
ends_of (Ok from) (Err fault) = Err fault
ends_of (Err fault) to = Err fault

-- the point of the coordinates at a place and the next
abbrev pub point_read : ℕ → List ℕ → List ℕ → Result Point LineFault
point_read place x y = point_of (coordinate_read place x) (coordinate_read (place + 1) y)

-- two ends of exactly four coordinates, the first of them at this place
abbrev pub ends_read : ℕ → List (List ℕ) → Result Ends LineFault
ends_read place (x1 ∷ y1 ∷ x2 ∷ y2 ∷ []) = ends_of (point_read place x1 y1) (point_read (place + 2) x2 y2)
ends_read place words = Err WrongCount

-- a kind is one digit
abbrev pub kind_of : List ℕ → Option Kind
kind_of word =
    if bytes_eq word (codes "1") then Some Edge
    else if bytes_eq word (codes "2") then Some Mountain
    else if bytes_eq word (codes "3") then Some Valley
    else if bytes_eq word (codes "4") then Some Aux
    else if bytes_eq word (codes "5") then Some Unassigned
    else None

abbrev pub line_with : Kind → Result Ends LineFault → Result CpLine LineFault
line_with kind (Ok ends) = Ok (record { kind = kind; from = ends.from; to = ends.to })
line_with kind (Err fault) = Err fault

abbrev pub kind_line : Option Kind → List (List ℕ) → Result CpLine LineFault
kind_line None words = Err BadKind
kind_line (Some kind) words = line_with kind (ends_read 1 words)

-- by the first word, which is the kind, and then by those after it
abbrev pub words_line : List (List ℕ) → Result CpLine LineFault
words_line [] = Err UnknownWord
words_line (word ∷ words) = if is_digits word then kind_line (kind_of word) words else Err UnknownWord

-- a line that is not blank, without its end
unfoldable pub line_read : List ℕ → Result CpLine LineFault
line_read line = if nat_lt longest_line (length line) then Err LongLine else words_line (words_of line)
