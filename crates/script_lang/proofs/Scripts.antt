-- The commands of a script, in the words of its lines and blocks.
use Rattle.std.proofs.Common.{◌≡◌, ℕ, ◌+◌, Bool, true, false, not, ◌&&◌, cond, List, [], ◌∷◌, ◌++◌, map, length, Option, None, Some, Ok, Err, IsTrue, refl, ap, sym, ◌∙◌, arith}
use Rattle.std.proofs.lemmas.List.{append-nil}
use Rattle.std.specs.List.{filter_map, cons_option}
use Rattle.std.specs.declared.result.Result.{Result}
use Rattle.cp_text.specs.declared.line.CpLine.{CpLine}
use Rattle.cp_text.specs.declared.line.LineFault.{LineFault}
use Rattle.cp_text.specs.Words.{bare_lines}
use Rattle.script_lang.specs.declared.block.LoadStop.{LoadStop}
use Rattle.script_lang.specs.declared.block.LoadStop.TheVariants.{Ended, Bad, Unended}
use Rattle.script_lang.specs.declared.command.Command.{Command}
use Rattle.script_lang.specs.declared.command.Command.TheVariants.{Load}
use Rattle.script_lang.specs.Judged.{command_of}
use Rattle.script_lang.specs.Script.{is_load_line, is_end_line, inside_of, ending_of, block_read, lines_before, stop_at, line_to_load, block_command, block_of, commands_from}
use Rattle.script_lang.specs.Laws.{has_no_load, has_no_end, is_good, are_good, PlainLinesAreJudged, BlocksAreOneCommand, OpenBlocksAreOneCommand, FirstBadLineStops, GoodLinesAreLoaded}

both : (b c : Bool) → IsTrue (not b && c) → (b ≡ false) × IsTrue c
both true c h = absurd (cc h)
both false c h = (refl, h)

cons_option-append : {X : Type 0} (o : Option X) (xs ys : List X)
    → cons_option o (xs ++ ys) ≡ cons_option o xs ++ ys
cons_option-append None xs ys = refl
cons_option-append (Some x) xs ys = refl

-- the lines before any block are judged one by one
plain : (before rest : List (List ℕ)) → IsTrue (has_no_load before)
    → commands_from false (before ++ rest) ≡ filter_map command_of before ++ commands_from false rest
plain [] rest h = refl
plain (line ∷ lines) rest h =
    let here = both (is_load_line line) (has_no_load lines) h in
    ap (λ b. cond b (block_of (lines ++ rest) ∷ commands_from true (lines ++ rest))
    (cons_option (command_of line) (commands_from false (lines ++ rest)))) here.0
    ∙ ap (cons_option (command_of line)) (plain lines rest here.1)
    ∙ cons_option-append (command_of line) (filter_map command_of lines) (commands_from false rest)

begun : (load : List ℕ) (lines : List (List ℕ)) → IsTrue (is_load_line load)
    → commands_from false (load ∷ lines) ≡ block_of lines ∷ commands_from true lines
begun load lines h =
    ap (λ b. cond b (block_of lines ∷ commands_from true lines)
    (cons_option (command_of load) (commands_from false lines))) h

-- ---- a block with its `end`

inside_ended : (inside behind : List (List ℕ)) (end : List ℕ) → IsTrue (has_no_end inside)
    → IsTrue (is_end_line end) → inside_of (inside ++ end ∷ behind) ≡ inside
inside_ended [] behind end h e = ap (λ b. cond b [] (end ∷ inside_of behind)) e
inside_ended (line ∷ lines) behind end h e =
    let here = both (is_end_line line) (has_no_end lines) h in
    ap (λ b. cond b [] (line ∷ inside_of (lines ++ end ∷ behind))) here.0
    ∙ ap (λ ls. line ∷ ls) (inside_ended lines behind end here.1 e)

ending_ended : (inside behind : List (List ℕ)) (end : List ℕ) → IsTrue (has_no_end inside)
    → IsTrue (is_end_line end) → ending_of (inside ++ end ∷ behind) ≡ Ended
ending_ended [] behind end h e = ap (λ b. cond b Ended (ending_of behind)) e
ending_ended (line ∷ lines) behind end h e =
    let here = both (is_end_line line) (has_no_end lines) h in
    ap (λ b. cond b Ended (ending_of (lines ++ end ∷ behind))) here.0 ∙ ending_ended lines behind end here.1 e

behind_ended : (inside behind : List (List ℕ)) (end : List ℕ) → IsTrue (has_no_end inside)
    → IsTrue (is_end_line end) → commands_from true (inside ++ end ∷ behind) ≡ commands_from false behind
behind_ended [] behind end h e = ap (λ b. commands_from (not b) behind) e
behind_ended (line ∷ lines) behind end h e =
    let here = both (is_end_line line) (has_no_end lines) h in
    ap (λ b. commands_from (not b) (lines ++ end ∷ behind)) here.0 ∙ behind_ended lines behind end here.1 e

-- ---- a block without `end`

inside_open : (inside : List (List ℕ)) → IsTrue (has_no_end inside) → inside_of inside ≡ inside
inside_open [] h = refl
inside_open (line ∷ lines) h =
    let here = both (is_end_line line) (has_no_end lines) h in
    ap (λ b. cond b [] (line ∷ inside_of lines)) here.0 ∙ ap (λ ls. line ∷ ls) (inside_open lines here.1)

ending_open : (inside : List (List ℕ)) → IsTrue (has_no_end inside) → ending_of inside ≡ Unended
ending_open [] h = refl
ending_open (line ∷ lines) h =
    let here = both (is_end_line line) (has_no_end lines) h in
    ap (λ b. cond b Ended (ending_of lines)) here.0 ∙ ending_open lines here.1

behind_open : (inside : List (List ℕ)) → IsTrue (has_no_end inside) → commands_from true inside ≡ []
behind_open [] h = refl
behind_open (line ∷ lines) h =
    let here = both (is_end_line line) (has_no_end lines) h in
    ap (λ b. commands_from (not b) lines) here.0 ∙ behind_open lines here.1

-- ---- the laws of whole scripts

block_is : (lines inside : List (List ℕ)) (ending : LoadStop) → inside_of lines ≡ inside
    → ending_of lines ≡ ending → block_of lines ≡ block_command inside ending
block_is lines inside ending h e =
    ap (λ ls. block_command ls (ending_of lines)) h ∙ ap (block_command inside) e

then_load : (before lines inside : List (List ℕ)) (load : List ℕ) (ending : LoadStop) (behind : List Command)
    → IsTrue (has_no_load before) → IsTrue (is_load_line load)
    → inside_of lines ≡ inside → ending_of lines ≡ ending → commands_from true lines ≡ behind
    → commands_from false (before ++ load ∷ lines) ≡ filter_map command_of before
    ++ block_command inside ending ∷ behind
then_load before lines inside load ending behind none begins h e b =
    plain before (load ∷ lines) none
    ∙ ap (λ cs. filter_map command_of before ++ cs)
    (begun load lines begins ∙ ap (λ c. c ∷ commands_from true lines) (block_is lines inside ending h e)
    ∙ ap (λ cs. block_command inside ending ∷ cs) b)

pub blocks_are_one_command : BlocksAreOneCommand
blocks_are_one_command before inside behind load end none begins inner ends =
    then_load before (inside ++ end ∷ behind) inside load Ended (commands_from false behind) none begins
    (inside_ended inside behind end inner ends)
    (ending_ended inside behind end inner ends)
    (behind_ended inside behind end inner ends)

pub open_blocks_are_one_command : OpenBlocksAreOneCommand
open_blocks_are_one_command before inside load none begins inner =
    then_load before inside inside load Unended [] none begins (inside_open inside inner)
    (ending_open inside inner) (behind_open inside inner)

pub plain_lines_are_judged : PlainLinesAreJudged
plain_lines_are_judged bytes h =
    ap (commands_from false) (sym (append-nil (bare_lines bytes)))
    ∙ plain (bare_lines bytes) [] h
    ∙ append-nil (filter_map command_of (bare_lines bytes))

-- ---- the laws of blocks

abbrev Answers : Type 0
Answers = List (Option (Result CpLine LineFault))

stops : (good rest : List (List ℕ)) (line : List ℕ) (fault : LineFault) (ending : LoadStop) (n : ℕ)
    → IsTrue (are_good good) → block_read line ≡ Some (Err fault)
    → (lines_before n (map block_read (good ++ line ∷ rest)) ≡ lines_before n (map block_read good))
    × (stop_at n (map block_read (good ++ line ∷ rest)) ending ≡ Bad (n + length good) fault)
stops [] rest line fault ending n h bad = (
  ap (λ answer. lines_before n (answer ∷ map block_read rest)) bad,
  ap (λ answer. stop_at n (answer ∷ map block_read rest) ending) bad ∙ ap (λ m. Bad m fault) (omega arith),
)
stops (l ∷ ls) rest line fault ending n h bad =
    go (block_read l) h (λ k. stops ls rest line fault ending (n + 1) k bad)
  where
    go : (answer : Option (Result CpLine LineFault)) → IsTrue (is_good answer && are_good ls)
        → (IsTrue (are_good ls)
        → (lines_before (n + 1) (map block_read (ls ++ line ∷ rest))
        ≡ lines_before (n + 1) (map block_read ls))
        × (stop_at (n + 1) (map block_read (ls ++ line ∷ rest)) ending ≡ Bad (n + 1 + length ls) fault))
        → (lines_before n (answer ∷ map block_read (ls ++ line ∷ rest))
        ≡ lines_before n (answer ∷ map block_read ls))
        × (stop_at n (answer ∷ map block_read (ls ++ line ∷ rest)) ending ≡ Bad (n + length (l ∷ ls)) fault)
    go None h later = ((later h).0, (later h).1 ∙ ap (λ m. Bad m fault) (omega arith))
    go (Some (Ok first)) h later = (
      ap (λ lines. line_to_load n first ∷ lines) (later h).0,
      (later h).1
          ∙ ap (λ m. Bad m fault) (omega arith),
    )
    go (Some (Err other)) h later = absurd (cc h)

pub first_bad_line_stops : FirstBadLineStops
first_bad_line_stops good rest line fault ending h bad =
    let both = stops good rest line fault ending 1 h bad in
    ap (λ lines. Load lines (stop_at 1 (map block_read (good ++ line ∷ rest)) ending)) both.0
    ∙ ap (Load (lines_before 1 (map block_read good))) (both.1 ∙ ap (λ m. Bad m fault) (omega arith))

ends : (lines : List (List ℕ)) (ending : LoadStop) (n : ℕ) → IsTrue (are_good lines)
    → stop_at n (map block_read lines) ending ≡ ending
ends [] ending n h = refl
ends (l ∷ ls) ending n h = go (block_read l) h (ends ls ending (n + 1))
  where
    go : (answer : Option (Result CpLine LineFault)) → IsTrue (is_good answer && are_good ls)
        → (IsTrue (are_good ls) → stop_at (n + 1) (map block_read ls) ending ≡ ending)
        → stop_at n (answer ∷ map block_read ls) ending ≡ ending
    go None h later = later h
    go (Some (Ok first)) h later = later h
    go (Some (Err other)) h later = absurd (cc h)

pub good_lines_are_loaded : GoodLinesAreLoaded
good_lines_are_loaded lines ending h =
    ap (Load (lines_before 1 (map block_read lines))) (ends lines ending 1 h)
