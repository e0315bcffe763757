-- Each judged line meets the condition of a command.
use Rattle.std.proofs.Common.{ℕ, Bool, true, false, List, [], ◌∷◌, Option, None, Some, Ok, Err, cond, codes, IsTrue, refl, nat_lt, nat_le, nat_eq, length, ◌≡◌, ◌&&◌}
use Rattle.std.specs.Prelude.{IfSome}
use Rattle.std.specs.Str.{bytes_eq}
use Rattle.std.specs.declared.result.Result.{Result}
use Rattle.plane_geometry.specs.declared.Point.{Point}
use Rattle.crease_model.specs.declared.Kind.{Kind}
use Rattle.crease_model.specs.declared.Kind.TheVariants.{Edge, Mountain, Valley, Aux, Unassigned}
use Rattle.cp_text.specs.declared.line.CpLine.{CpLine}
use Rattle.cp_text.specs.declared.line.Ends.{Ends}
use Rattle.cp_text.specs.declared.line.LineFault.{LineFault}
use Rattle.cp_text.specs.Digits.{is_digits, digits_value}
use Rattle.cp_text.specs.Words.{longest_line, words_of}
use Rattle.cp_text.specs.WholeNumber.{number_between, whole_read}
use Rattle.cp_text.specs.LineReading.{kind_of, ends_read, line_read}
use Rattle.script_lang.specs.declared.block.LoadStop.TheVariants.{Unended}
use Rattle.script_lang.specs.declared.command.Command.{Command}
use Rattle.script_lang.specs.declared.command.Command.TheVariants.{Merge, Clear, Load, Undo, Redo, List as ListCommand, Check, Fold, Another, Budget, Peek, Wait, Cancel}
use Rattle.script_lang.specs.Judged.{line_command, alone, delete_command, set_kind_command, set_words, points_read, sheet_command, is_sheet_count, sheet_words, least_budget, most_budget, number_or_fault, job_read, budget_read, with_number, folding_command, word_command, words_command, command_of}
use Rattle.script_lang.specs.Script.{meets_condition}

abbrev Meets : Command → Type 0
Meets command = IsTrue (meets_condition command)

either : (b : Bool) (x y : Command) → Meets x → Meets y → Meets (cond b x y)
either true x y h k = h
either false x y h k = k

line : (answer : Result CpLine LineFault) → Meets (line_command answer)
line (Ok l) = refl
line (Err fault) = refl

by_itself : (command : Command) (words : List (List ℕ)) → Meets command → Meets (alone command words)
by_itself command [] h = h
by_itself command (word ∷ words) h = refl

delete : (ends : Result Ends LineFault) → Meets (delete_command ends)
delete (Ok ends) = refl
delete (Err fault) = refl

set : (kind : Option Kind) (ends : Result Ends LineFault) → Meets (set_kind_command kind ends)
set None ends = refl
set (Some Edge) ends = refl
set (Some Mountain) (Ok ends) = refl
set (Some Mountain) (Err fault) = refl
set (Some Valley) (Ok ends) = refl
set (Some Valley) (Err fault) = refl
set (Some Aux) ends = refl
set (Some Unassigned) (Ok ends) = refl
set (Some Unassigned) (Err fault) = refl

set_line : (words : List (List ℕ)) → Meets (set_words words)
set_line [] = refl
set_line (kind ∷ words) = either (nat_eq (length words) 4) _ _ (set (kind_of kind) (ends_read 2 words)) refl

corners : (points : Result (List Point) LineFault) → Meets (sheet_command points)
corners (Ok points) = refl
corners (Err fault) = refl

sheet_line : (words : List (List ℕ)) → Meets (sheet_words words)
sheet_line words = either (is_sheet_count (length words)) _ _ (corners (points_read 1 words)) refl

-- a command with a number that meets the condition whatever the number is
of_job : (command : ℕ → Command) (job : Result ℕ LineFault) → ((n : ℕ) → Meets (command n))
    → Meets (with_number command job)
of_job command (Ok n) h = h n
of_job command (Err fault) h = refl

between : (n : ℕ) → Meets (with_number Budget (number_or_fault (number_between least_budget most_budget n)))
between n = go (nat_le least_budget n && nat_le n most_budget) refl
  where
    go : (b : Bool) → (nat_le least_budget n && nat_le n most_budget) ≡ b
        → Meets (with_number Budget (number_or_fault (cond b (Some n) None)))
    go true h = h
    go false h = refl

budget_word : (word : List ℕ)
    → Meets (with_number Budget (number_or_fault (whole_read least_budget most_budget word)))
budget_word word = go (is_digits word && nat_le (length word) 10)
  where
    go : (b : Bool) → Meets (with_number Budget (number_or_fault
        (cond b (number_between least_budget most_budget (digits_value 0 word)) None)))
    go true = between (digits_value 0 word)
    go false = refl

budget : (words : List (List ℕ)) → Meets (with_number Budget (budget_read words))
budget [] = refl
budget (word ∷ []) = budget_word word
budget (word ∷ next ∷ words) = refl

folding : (word : List ℕ) (words : List (List ℕ)) → Meets (folding_command word words)
folding word words =
    either (bytes_eq word (codes "fold")) _ _ (by_itself Fold words refl)
    (either (bytes_eq word (codes "another")) _ _ (of_job Another (job_read words) (λ n. refl))
    (either (bytes_eq word (codes "budget")) _ _ (budget words)
    (either (bytes_eq word (codes "peek")) _ _ (of_job Peek (job_read words) (λ n. refl))
    (either (bytes_eq word (codes "wait")) _ _ (of_job Wait (job_read words) (λ n. refl))
    (either (bytes_eq word (codes "cancel")) _ _ (of_job Cancel (job_read words) (λ n. refl))
    refl)))))

pub word_meets : (word : List ℕ) (words : List (List ℕ)) → IsTrue (meets_condition (word_command word words))
word_meets word words =
    either (bytes_eq word (codes "delete")) _ _ (delete (ends_read 1 words))
    (either (bytes_eq word (codes "set")) _ _ (set_line words)
    (either (bytes_eq word (codes "merge")) _ _ (by_itself Merge words refl)
    (either (bytes_eq word (codes "clear")) _ _ (by_itself Clear words refl)
    (either (bytes_eq word (codes "sheet")) _ _ (sheet_line words)
    (either (bytes_eq word (codes "load")) _ _ (by_itself (Load [] Unended) words refl)
    (either (bytes_eq word (codes "undo")) _ _ (by_itself Undo words refl)
    (either (bytes_eq word (codes "redo")) _ _ (by_itself Redo words refl)
    (either (bytes_eq word (codes "list")) _ _ (by_itself ListCommand words refl)
    (either (bytes_eq word (codes "check")) _ _ (by_itself Check words refl)
    (folding word words))))))))))

words_meet : (l : List ℕ) (words : List (List ℕ)) → IfSome (words_command l words) Meets
words_meet l [] = tt
words_meet l (word ∷ words) =
    either (is_digits word) _ _ (line (line_read l))
    (either (nat_lt longest_line (length l)) _ _ refl (word_meets word words))

pub judged_meets : (l : List ℕ) → IfSome (command_of l) (λ command. IsTrue (meets_condition command))
judged_meets l = words_meet l (words_of l)
