-- The command of a block, as its lines are read one after another.
use Rattle.std.proofs.Common.{◌≡◌, ℕ, List, [], ◌∷◌, ◌++◌, map, ap, ap₂, ◌∙◌, append_assoc}
use Rattle.crease_store.specs.declared.loading.LoadLine.{LoadLine}
use Rattle.script_lang.specs.declared.command.Command.{Command}
use Rattle.script_lang.specs.declared.command.Command.TheVariants.{Load}
use Rattle.script_lang.specs.Script.{inside_of, ending_of, block_read, lines_before, stop_at}

-- the command of the crease lines so far, and of the lines from this number on
abbrev pub block_after : List LoadLine → ℕ → List (List ℕ) → Command
block_after done n lines =
    Load (done ++ lines_before n (map block_read (inside_of lines)))
    (stop_at n (map block_read (inside_of lines)) (ending_of lines))

-- a command behind the others, and then those of the lines that follow
pub block_pushed : (old new rest behind : List Command) (c block : Command) → new ≡ old ++ c ∷ [] → c ≡ block
    → rest ≡ behind → new ++ rest ≡ old ++ block ∷ behind
block_pushed old new rest behind c block e f g =
    ap (λ cs. cs ++ rest) e ∙ append_assoc old (c ∷ []) rest ∙ ap₂ (λ d ds. old ++ d ∷ ds) f g
