use Rattle.std.proofs.Common.{◌≡◌, ℕ, ◌++◌, List, codes, decimal, sym, subst, string_bytes, IfOk, ◌∙◌, append_assoc}
use Rattle.oriedita_cli.proofs.samples.counted_line.Goals as goal

-- the text as it is put together, from the right
nested : (a f b p c k d : List ℕ) → (((((a ++ f) ++ b) ++ p) ++ c) ++ k) ++ d ≡ a ++ (f ++ (b ++ (p ++ (c ++ (k ++ d)))))
nested a f b p c k d =
    append_assoc ((((a ++ f) ++ b) ++ p) ++ c) k d ∙ append_assoc (((a ++ f) ++ b) ++ p) c (k ++ d)
    ∙ append_assoc ((a ++ f) ++ b) p (c ++ (k ++ d)) ∙ append_assoc (a ++ f) b (p ++ (c ++ (k ++ d)))
    ∙ append_assoc a f (b ++ (p ++ (c ++ (k ++ d))))

pub returns : goal.returns
returns c =
    subst (λ xs. IfOk c.format.result (λ text. string_bytes text ≡ codes "sample " ++ decimal c.args.n ++ xs))
    (sym (nested (codes " faces ") (decimal c.args.faces) (codes " pairs ") (decimal c.args.pairs) (codes " orders ")
    (decimal c.args.orders) (codes "\n")))
    c.format.ensures.ok
