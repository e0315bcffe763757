-- The commands of a script: the judged lines in order, blank ones left out, and one command for each block.
use Rattle.std.specs.Prelude.{ℕ, ◌+◌, Bool, true, false, not, ◌&&◌, List, [], ◌∷◌, map, length, Option, None, Some, Ok, Err, nat_le, if◌then◌else◌, codes}
use Rattle.std.specs.List.{cons_option}
use Rattle.std.specs.declared.result.Result.{Result}
use Rattle.std.specs.Str.{bytes_eq}
use Rattle.crease_model.specs.Rules.{is_crease_kind}
use Rattle.crease_store.specs.declared.loading.LoadLine.{LoadLine}
use Rattle.cp_text.specs.declared.line.CpLine.{CpLine}
use Rattle.cp_text.specs.declared.line.LineFault.{LineFault}
use Rattle.cp_text.specs.Words.{longest_line, words_of, bare_lines}
use Rattle.cp_text.specs.LineReading.{line_read}
use Rattle.script_lang.specs.declared.block.LoadStop.{LoadStop}
use Rattle.script_lang.specs.declared.block.LoadStop.TheVariants.{Ended, Bad, Unended}
use Rattle.script_lang.specs.declared.command.Command.{Command}
use Rattle.script_lang.specs.declared.command.Command.TheVariants.{Set, Budget, Load}
use Rattle.script_lang.specs.Judged.{least_budget, most_budget, command_of}

-- a budget that an ask may have
abbrev pub is_budget : ℕ → Bool
is_budget n = nat_le least_budget n && nat_le n most_budget

-- what each command of a script meets: the kind that it sets is one of creases, and the budget is within its limits
abbrev pub meets_condition : Command → Bool
meets_condition (Set kind from to) = is_crease_kind kind
meets_condition (Budget budget) = is_budget budget
meets_condition command = true

-- the words are this one alone
abbrev pub is_only : List ℕ → List (List ℕ) → Bool
is_only word [] = false
is_only word (w ∷ []) = bytes_eq w word
is_only word (w ∷ v ∷ words) = false

-- a line of at most 1,000 bytes that begins a block
abbrev pub is_load_line : List ℕ → Bool
is_load_line line = nat_le (length line) longest_line && is_only (codes "load") (words_of line)

-- a line of at most 1,000 bytes that ends a block
abbrev pub is_end_line : List ℕ → Bool
is_end_line line = nat_le (length line) longest_line && is_only (codes "end") (words_of line)

-- ---- blocks

-- the lines before the first `end`
abbrev pub inside_of : List (List ℕ) → List (List ℕ)
inside_of [] = []
inside_of (line ∷ lines) = if is_end_line line then [] else line ∷ inside_of lines

-- whether there is an `end`
abbrev pub ending_of : List (List ℕ) → LoadStop
ending_of [] = Unended
ending_of (line ∷ lines) = if is_end_line line then Ended else ending_of lines

abbrev pub unless_blank : List (List ℕ) → Result CpLine LineFault → Option (Result CpLine LineFault)
unless_blank [] answer = None
unless_blank (word ∷ words) answer = Some answer

-- a line of a block is blank or read as a crease line
abbrev pub block_read : List ℕ → Option (Result CpLine LineFault)
block_read line = unless_blank (words_of line) (line_read line)

abbrev pub line_to_load : ℕ → CpLine → LoadLine
line_to_load n line = record { number = n; kind = line.kind; from = line.from; to = line.to }

-- the crease lines before the first bad one. The first answer is that of the line with this number.
abbrev pub lines_before : ℕ → List (Option (Result CpLine LineFault)) → List LoadLine
lines_before n [] = []
lines_before n (None ∷ answers) = lines_before (n + 1) answers
lines_before n (Some (Ok line) ∷ answers) = line_to_load n line ∷ lines_before (n + 1) answers
lines_before n (Some (Err fault) ∷ answers) = []

-- the first bad line, or how the block ends where none is bad
abbrev pub stop_at : ℕ → List (Option (Result CpLine LineFault)) → LoadStop → LoadStop
stop_at n [] ending = ending
stop_at n (None ∷ answers) ending = stop_at (n + 1) answers ending
stop_at n (Some (Ok line) ∷ answers) ending = stop_at (n + 1) answers ending
stop_at n (Some (Err fault) ∷ answers) ending = Bad n fault

-- the command of the lines of a block, blank ones counted
abbrev pub block_command : List (List ℕ) → LoadStop → Command
block_command lines ending =
    Load (lines_before 1 (map block_read lines)) (stop_at 1 (map block_read lines) ending)

-- the command of the block that begins with these lines
abbrev pub block_of : List (List ℕ) → Command
block_of lines = block_command (inside_of lines) (ending_of lines)

-- ---- whole scripts

-- the commands of lines, in a block or outside. A block is one command, and its lines are no others.
abbrev pub commands_from : Bool → List (List ℕ) → List Command
commands_from in_block [] = []
commands_from true (line ∷ lines) = commands_from (not (is_end_line line)) lines
commands_from false (line ∷ lines) =
    if is_load_line line then block_of lines ∷ commands_from true lines
    else cons_option (command_of line) (commands_from false lines)

abbrev pub commands_of : List ℕ → List Command
commands_of bytes = commands_from false (bare_lines bytes)

-- ---- files

-- the command of a crease pattern file: its lines are those of a block, without `load` and `end`
abbrev pub file_command : List ℕ → Command
file_command bytes = block_command (bare_lines bytes) Ended
