-- The command that a line is.
use Rattle.std.specs.Prelude.{ℕ, ◌+◌, ◌%◌, Bool, ◌&&◌, List, [], ◌∷◌, length, Option, None, Some, Ok, Err, nat_eq, nat_le, nat_lt, if◌then◌else◌, codes}
use Rattle.std.specs.declared.result.Result.{Result}
use Rattle.std.specs.Str.{bytes_eq}
use Rattle.plane_geometry.specs.declared.Point.{Point}
use Rattle.crease_model.specs.declared.Kind.{Kind}
use Rattle.crease_model.specs.Rules.{is_crease_kind}
use Rattle.cp_text.specs.declared.line.CpLine.{CpLine}
use Rattle.cp_text.specs.declared.line.Ends.{Ends}
use Rattle.cp_text.specs.declared.line.LineFault.{LineFault}
use Rattle.cp_text.specs.declared.line.LineFault.TheVariants.{LongLine, UnknownWord, BadKind, WrongCount, BadNumber}
use Rattle.cp_text.specs.Digits.{is_digits}
use Rattle.cp_text.specs.Words.{longest_line, words_of}
use Rattle.cp_text.specs.WholeNumber.{whole_read}
use Rattle.cp_text.specs.LineReading.{kind_of, point_read, ends_read, line_read}
use Rattle.script_lang.specs.declared.block.LoadStop.TheVariants.{Unended}
use Rattle.script_lang.specs.declared.command.Command.{Command}
use Rattle.script_lang.specs.declared.command.Command.TheVariants.{Add, Delete, Set, Merge, Clear, Sheet, Load, Undo, Redo, List as ListCommand, Check, Fold, Another, Budget, Peek, Wait, Cancel, Bad}

-- a crease line is a line to add
abbrev pub line_command : Result CpLine LineFault → Command
line_command (Ok line) = Add line.kind line.from line.to
line_command (Err fault) = Bad fault

-- a command's word stands alone on its line
abbrev pub alone : Command → List (List ℕ) → Command
alone command [] = command
alone command (word ∷ words) = Bad WrongCount

abbrev pub delete_command : Result Ends LineFault → Command
delete_command (Ok ends) = Delete ends.from ends.to
delete_command (Err fault) = Bad fault

abbrev pub set_command : Kind → Result Ends LineFault → Command
set_command kind (Ok ends) = Set kind ends.from ends.to
set_command kind (Err fault) = Bad fault

-- a piece becomes a mountain, a valley or an unassigned crease
abbrev pub set_kind_command : Option Kind → Result Ends LineFault → Command
set_kind_command None ends = Bad BadKind
set_kind_command (Some kind) ends = if is_crease_kind kind then set_command kind ends else Bad BadKind

-- a kind and two ends
abbrev pub set_words : List (List ℕ) → Command
set_words [] = Bad WrongCount
set_words (kind ∷ words) =
    if nat_eq (length words) 4 then set_kind_command (kind_of kind) (ends_read 2 words) else Bad WrongCount

-- two words for each of 3 to 16 points
abbrev pub is_sheet_count : ℕ → Bool
is_sheet_count n = nat_le 6 n && nat_le n 32 && nat_eq (n % 2) 0

abbrev pub point_before : Result Point LineFault → Result (List Point) LineFault
    → Result (List Point) LineFault
point_before (Ok point) (Ok points) = Ok (point ∷ points)
point_before (Ok point) (Err fault) = Err fault
point_before (Err fault) points = Err fault

-- the points of pairs of coordinates, the first of them at this place
abbrev pub points_read : ℕ → List (List ℕ) → Result (List Point) LineFault
points_read place [] = Ok []
points_read place (x ∷ []) = Err WrongCount
points_read place (x ∷ y ∷ words) = point_before (point_read place x y) (points_read (place + 2) words)

abbrev pub sheet_command : Result (List Point) LineFault → Command
sheet_command (Ok points) = Sheet points
sheet_command (Err fault) = Bad fault

abbrev pub sheet_words : List (List ℕ) → Command
sheet_words words = if is_sheet_count (length words) then sheet_command (points_read 1 words)
    else Bad WrongCount

abbrev pub number_or_fault : Option ℕ → Result ℕ LineFault
number_or_fault None = Err (BadNumber 1)
number_or_fault (Some n) = Ok n

-- one word, a whole number within limits
abbrev pub number_alone : ℕ → ℕ → List (List ℕ) → Result ℕ LineFault
number_alone least most [] = Err WrongCount
number_alone least most (word ∷ []) = number_or_fault (whole_read least most word)
number_alone least most (word ∷ next ∷ words) = Err WrongCount

-- the number of a job, 0 to 4,294,967,295
abbrev pub job_read : List (List ℕ) → Result ℕ LineFault
job_read words = number_alone 0 4294967295 words

abbrev pub least_budget : ℕ
least_budget = 1

abbrev pub most_budget : ℕ
most_budget = 1000000000

abbrev pub budget_read : List (List ℕ) → Result ℕ LineFault
budget_read words = number_alone least_budget most_budget words

abbrev pub with_number : (ℕ → Command) → Result ℕ LineFault → Command
with_number command (Ok n) = command n
with_number command (Err fault) = Bad fault

-- the commands of folding jobs
abbrev pub folding_command : List ℕ → List (List ℕ) → Command
folding_command word words =
    if bytes_eq word (codes "fold") then alone Fold words
    else if bytes_eq word (codes "another") then with_number Another (job_read words)
    else if bytes_eq word (codes "budget") then with_number Budget (budget_read words)
    else if bytes_eq word (codes "peek") then with_number Peek (job_read words)
    else if bytes_eq word (codes "wait") then with_number Wait (job_read words)
    else if bytes_eq word (codes "cancel") then with_number Cancel (job_read words)
    else Bad UnknownWord

-- a line `load` by itself is a block without lines and without its end
abbrev pub word_command : List ℕ → List (List ℕ) → Command
word_command word words =
    if bytes_eq word (codes "delete") then delete_command (ends_read 1 words)
    else if bytes_eq word (codes "set") then set_words words
    else if bytes_eq word (codes "merge") then alone Merge words
    else if bytes_eq word (codes "clear") then alone Clear words
    else if bytes_eq word (codes "sheet") then sheet_words words
    else if bytes_eq word (codes "load") then alone (Load [] Unended) words
    else if bytes_eq word (codes "undo") then alone Undo words
    else if bytes_eq word (codes "redo") then alone Redo words
    else if bytes_eq word (codes "list") then alone ListCommand words
    else if bytes_eq word (codes "check") then alone Check words
    else folding_command word words

-- by the first word: a kind, or a command's word. A line of more than 1,000 bytes is not judged further.
abbrev pub words_command : List ℕ → List (List ℕ) → Option Command
words_command line [] = None
words_command line (word ∷ words) = Some (
    if is_digits word then line_command (line_read line)
    else if nat_lt longest_line (length line) then Bad LongLine
    else word_command word words)

-- a line without words is blank, however long it is
abbrev pub command_of : List ℕ → Option Command
command_of line = words_command line (words_of line)
