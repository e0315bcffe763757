use Rattle.std.proofs.Common.{◌≡◌, ◌∙◌, ◌<◌, ◌≤◌, ℕ, Bool, not, List, [], drop, length, sym, arith}
use Rattle.std.proofs.lemmas.List.{at_drop_more, at_drop_all}
use Rattle.sign_rules.specs.declared.sign.Sign.{Sign}
use Rattle.sign_rules.specs.declared.sign.Sign.TheVariants.{Over}
use Rattle.search_cursor.specs.Place.{stands_before}
use Rattle.search_cursor.proofs.position.stands_before.Goals as goal

first_ends : (s r : List Sign) (n : ℕ) (x y : Bool) → length s ≤ n → n < length r
    → stands_before (drop n s) x (drop n r) y ≡ not x
first_ends s r n x y ends more =
    at_drop_all (λ (l : List Sign). stands_before l x (drop n r) y) s n ends
    ∙ at_drop_more (λ (l : List Sign). stands_before [] x l y) r n Over more

second_ends : (s r : List Sign) (n : ℕ) (x y : Bool) → n < length s → length r ≤ n
    → stands_before (drop n s) x (drop n r) y ≡ y
second_ends s r n x y more ends =
    at_drop_all (λ (l : List Sign). stands_before (drop n s) x l y) r n ends
    ∙ at_drop_more (λ (l : List Sign). stands_before l x [] y) s n Over more

pub returns-then-first-second : goal.returns-then-first-second
returns-then-first-second c =
    sym (first_ends c.args.first.now c.args.second.now c.loop-place.place c.args.past c.args.other_past
    (omega arith) (omega arith))
    ∙ c.loop-place.invariant

pub returns-then-second-first : goal.returns-then-second-first
returns-then-second-first c =
    sym (second_ends c.args.first.now c.args.second.now c.loop-place.place c.args.past c.args.other_past
    (omega arith) (omega arith))
    ∙ c.loop-place.invariant
