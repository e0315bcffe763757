use Rattle.std.proofs.Common.{◌≡◌, ℕ, ◌≤◌, List, ◌++◌, length, take, drop, sym, ap, ◌∙◌, arith}
use Rattle.std.proofs.lemmas.Grind.{common_steps}
use Rattle.std.proofs.lemmas.List.{take-append-drop, take_at, drop-drop, length-take-le, nil_from_length}
use Rattle.oriedita_io.proofs.mem_source.MemSourceSource.read.Goals as goal

-- the front of what was left, copied over the front of a buffer, and what is left then
front_and_rest : (left into copied : List ℕ) (n : ℕ) → n ≤ length left → copied ≡ take n left
    → left ≡ take n (copied ++ drop n into) ++ drop n left
front_and_rest left into copied n within is_front =
    let len : length copied ≡ n = ap length is_front ∙ length-take-le n left within in
    sym (take-append-drop n left)
    ∙ ap (λ xs. xs ++ drop n left) (sym (take_at copied (drop n into) n len ∙ is_front))

pub returns-clause-bytes : goal.returns-clause-bytes
returns-clause-bytes c =
    let fields = c.self.inside in
    let n = c.min-count.result in
    let left = drop fields.given fields.bytes.items in
    let copied : c.copy_from_slice.new.self ≡ take n left = grind (arith, common_steps) in
    let within : n ≤ length left = grind (arith, common_steps) in
    let rest = drop-drop n fields.given fields.bytes.items in (
      sym (ap (λ s. s.left) c.self.view_is) ∙ front_and_rest left c.args.into.now _ n within copied
          ∙ ap (λ xs. take n (c.copy_from_slice.new.self ++ drop n c.args.into.now) ++ xs) rest,
      λ none room. nil_from_length _ (grind (arith, common_steps)),
    )
