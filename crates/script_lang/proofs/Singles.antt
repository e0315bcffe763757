-- A script of one line.
use Rattle.std.proofs.Common.{◌≡◌, ℕ, Bool, true, false, ◌&&◌, cond, List, [], ◌∷◌, length, Option, None, Some, codes, nat_le, nat_lt, option_to_list, refl, ap, sym, ◌∙◌, arith}
use Rattle.std.specs.List.{cons_option}
use Rattle.std.proofs.lemmas.Bool.Decides.{nat_tests}
use Rattle.std.proofs.lemmas.Slice.Eq.{bytes_eq-Decides}
use Rattle.cp_text.specs.declared.line.LineFault.TheVariants.{LongLine}
use Rattle.cp_text.specs.Words.{longest_line, words_of}
use Rattle.script_lang.specs.declared.block.LoadStop.TheVariants.{Unended}
use Rattle.script_lang.specs.declared.command.Command.{Command}
use Rattle.script_lang.specs.declared.command.Command.TheVariants.{Load, Bad}
use Rattle.script_lang.specs.Judged.{words_command, command_of}
use Rattle.script_lang.specs.Script.{is_only, is_load_line, block_of}
use Rattle.script_lang.specs.Laws.{SingleLinesAreJudged}

both_true : (b c : Bool) → (b && c) ≡ true → (b ≡ true) × (c ≡ true)
both_true true c h = (refl, h)
both_true false c h = absurd (cc h)

load_words : (line : List ℕ) (words : List (List ℕ)) → is_only (codes "load") words ≡ true
    → nat_lt longest_line (length line) ≡ false → words_command line words ≡ Some (Load [] Unended)
load_words line [] h short = absurd (cc h)
load_words line (word ∷ []) h short =
    ap (λ w. words_command line (w ∷ [])) ((bytes_eq-Decides word (codes "load")).0 h)
    ∙ ap (λ b. Some (cond b (Bad LongLine) (Load [] Unended))) short
load_words line (word ∷ v ∷ words) h short = absurd (cc h)

load_judged : (line : List ℕ) → is_load_line line ≡ true → command_of line ≡ Some (Load [] Unended)
load_judged line h =
    let parts = both_true (nat_le (length line) longest_line) (is_only (codes "load") (words_of line)) h in
    let within : nat_le (length line) longest_line ≡ true = parts.0 in
    let short : nat_lt longest_line (length line) ≡ false = grind (arith, nat_tests) in
    load_words line (words_of line) parts.1 short

alone : (command : Option Command) → cons_option command [] ≡ option_to_list command
alone None = refl
alone (Some command) = refl

pub single_lines_are_judged : SingleLinesAreJudged
single_lines_are_judged line = go (is_load_line line) refl
  where
    go : (b : Bool) → is_load_line line ≡ b
        → cond b (block_of [] ∷ []) (cons_option (command_of line) []) ≡ option_to_list (command_of line)
    go true h = ap option_to_list (sym (load_judged line h))
    go false h = alone (command_of line)
