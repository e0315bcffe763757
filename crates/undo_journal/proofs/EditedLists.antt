-- Edits of lists, one after another.
use Rattle.std.proofs.Common.{◌≡◌, ℕ, List, [], ◌∷◌, ◌++◌, take, drop, ap, ap₂, sym, ◌∙◌, append_assoc}
use Rattle.std.specs.Prelude.{Some, None}
use Rattle.std.proofs.lemmas.List.{take-append-drop}
use Rattle.undo_journal.specs.declared.edits.Edit.{Edit}
use Rattle.undo_journal.specs.Edited.{edited}

-- what an edit puts in stands behind what it keeps
pub put_in : {T : Type 0} (new kept behind : List T) (x : T) (more : List (Edit T))
    → ((new ++ kept) ++ x ∷ []) ++ edited behind more ≡ new ++ (kept ++ (x ∷ edited behind more))
put_in new kept behind x more = append_assoc (new ++ kept) (x ∷ []) (edited behind more)
    ∙ append_assoc new kept (x ∷ edited behind more)

-- lists that begin alike and go on alike are equal
pub both_parts : {T : Type 0} (old new : List T) (k : ℕ) → take k old ≡ take k new → drop k old ≡ drop k new
    → old ≡ new
both_parts old new k e f = sym (take-append-drop k old) ∙ ap₂ ◌++◌ e f ∙ take-append-drop k new

-- behind k elements that stay, one is taken out
pub with_one_out : {T : Type 0} (old new rest : List T) (k : ℕ) (x : T) (more : List (Edit T))
    → take k old ≡ take k new → drop k old ≡ x ∷ rest → edited rest more ≡ drop k new
    → (let e : Edit T = record { kept = k; put = None } in edited old (e ∷ more)) ≡ new
with_one_out old new rest k x more e f g =
    ap (λ l. take k old ++ edited (drop 1 l) more) f ∙ ap₂ ◌++◌ e g ∙ take-append-drop k new

-- or one is put in
pub with_one_in : {T : Type 0} (old new rest : List T) (k : ℕ) (y : T) (more : List (Edit T))
    → take k old ≡ take k new → drop k new ≡ y ∷ rest → edited (drop k old) more ≡ rest
    → (let e : Edit T = record { kept = k; put = Some y } in edited old (e ∷ more)) ≡ new
with_one_in old new rest k y more e f g =
    ap₂ (λ (a b : List _). a ++ (y ∷ b)) e g ∙ ap (λ l. take k new ++ l) (sym f) ∙ take-append-drop k new
