use Rattle.std.proofs.Common.{◌≡◌, true, rules, ℕ, suc, ◌+◌, ◌∷◌, ◌++◌, take, drop, map, slice_set, sym, ap, subst, ◌∙◌, arith}
use Rattle.std.proofs.lemmas.List.{set_split}
use Rattle.crease_model.specs.Rules.{is_ascending}
use Rattle.crease_store.specs.InOrder.{with_in_order}
use Rattle.crease_store.proofs.InOrderLaws.{placed_ascends}
use Rattle.crease_store.proofs.placing.place.Goals as goal

pub returns-in-Ok-clause-ok : goal.returns-in-Ok-clause-ok
returns-in-Ok-clause-ok g c =
    let i = c.in-Ok.i in
    let new = c.args.item.now in
    let next : suc i ≡ i + 1 = omega arith in
    subst (λ xs. slice_set xs i new ≡ with_in_order g.T.OnSegment.segment_of xs new) c.as_slice.ensures.value
    (set_split c.as_slice.result.now i new c.in-Ok.ensures.bound ∙ ap (λ (n : ℕ). take i c.as_slice.result.now ++ new ∷ drop n c.as_slice.result.now) next ∙ sym c.in-Ok.ensures.value)

pub returns-in-Ok-clause-order : goal.returns-in-Ok-clause-order
returns-in-Ok-clause-order g c =
    subst (λ xs. is_ascending (map g.T.OnSegment.segment_of xs) ≡ true) (sym (returns-in-Ok-clause-ok g c))
    (placed_ascends g.T.OnSegment.segment_of c.args.items.now.items c.args.item.now c.requires)

pub returns-in_ok-insert-in-Err-clause-order : goal.returns-in_ok-insert-in-Err-clause-order
returns-in_ok-insert-in-Err-clause-order g c =
    let segment_of = g.T.OnSegment.segment_of in
    let old = c.args.items.now.items in
    let placed : c.insert.new.self.items ≡ with_in_order segment_of old c.args.item.now = search rules in
    subst (λ xs. is_ascending (map segment_of xs) ≡ true) (sym placed) (placed_ascends segment_of old c.args.item.now c.requires)
