-- Lists with edits made.
use Rattle.std.specs.Prelude.{List, [], ◌∷◌, ◌++◌, Option, None, Some, take, drop}
use Rattle.undo_journal.specs.declared.edits.Edit.{Edit}

-- an element that is put in, before what follows; or the first one is taken out of what is left
abbrev pub edited_by : {T : Type 0} → Option T → List T → (List T → List T) → List T
edited_by (Some x) rest more = x ∷ more rest
edited_by None rest more = more (drop 1 rest)

-- each edit is made behind those elements that stay
abbrev pub edited : {T : Type 0} → List T → List (Edit T) → List T
edited old [] = old
edited old (e ∷ es) = take e.kept old ++ edited_by e.put (drop e.kept old) (λ rest. edited rest es)
