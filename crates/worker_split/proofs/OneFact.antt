-- That an outcome is right for a task is one fact, so it may be read where only its existence is known.
use Rattle.std.proofs.Common.{◌≡◌, ℕ, zero, suc, ◌≤◌, Bool, true, List, length, refl}
use Rattle.std.specs.Coded.{Coded, Coded-set, coded_ℕ, coded_bool, coded_list, coded×, code_by, ×_prop, le_prop}
use Rattle.std.proofs.Math.Nat.{ℕ_set}
use Rattle.std.proofs.Math.Bool.{Bool-set}
use Rattle.std.proofs.Math.Logic.{∥∥₁_elim}
use Rattle.sign_rules.specs.declared.sign.Sign.{Sign}
use Rattle.sign_rules.specs.declared.sign.Sign.TheVariants.{Over, Under}
use Rattle.sign_rules.specs.Rules.{RulesView, is_consistent}
use Rattle.search_cursor.specs.Place.{SearchPlace, search_place, begins_with}
use Rattle.order_search.specs.Invariant.{IsConsistentWithin}
use Rattle.worker_split.specs.declared.outcome.Outcome.{Outcome}
use Rattle.worker_split.specs.declared.outcome.End.{End}
use Rattle.worker_split.specs.declared.outcome.End.TheVariants.{Found, Done, Paused}
use Rattle.order_search.specs.Lists.{open_lists, lists_between}
use Rattle.worker_split.specs.Tasks.{TaskView, left_at, IsRightEnd, IsRightOutcome}

abbrev bit_of : Sign → ℕ
bit_of Over = 0
bit_of Under = 1

abbrev sign_of : ℕ → Sign
sign_of zero = Over
sign_of (suc n) = Under

sign_back : (s : Sign) → sign_of (bit_of s) ≡ s
sign_back Over = refl
sign_back Under = refl

abbrev coded_signs : Coded (List Sign)
coded_signs = coded_list (code_by ℕ coded_ℕ bit_of sign_of sign_back)

abbrev coded_place : Coded SearchPlace
coded_place = code_by (List Sign × Bool) (coded× coded_signs coded_bool)
    (λ (p : SearchPlace). (p.signs, p.past)) (λ (p : List Sign × Bool). record { signs = p.0; past = p.1 }) (λ p. refl)

within_prop : (r : RulesView) (prefix signs : List Sign) → IsProp (IsConsistentWithin r prefix signs)
within_prop r prefix signs a b = λ i. record {
  begins = Bool-set (begins_with prefix signs) true a.begins b.begins i;
  consistent = Bool-set (is_consistent r signs) true a.consistent b.consistent i;
}

end_prop : (t : TaskView) (end : End) → IsProp (IsRightEnd t end)
end_prop t (Found order position) =
    ×_prop (Coded-set (coded_list coded_signs) _ _) (within_prop t.rules t.prefix position.signs.list)
end_prop t Done = Coded-set (coded_list coded_signs) _ _
end_prop t (Paused position) =
    let same : IsProp (left_at t (search_place position) ≡ left_at t t.from) =
    Coded-set (coded_list coded_signs) _ _ in
    let spent : IsProp (t.budget ≤ length (lists_between (open_lists t.rules) t.prefix t.from (search_place position))) =
    le_prop in
    λ a b i. (
      same a.0 b.0 i,
      spent a.1 b.1 i,
      within_prop t.rules t.prefix position.signs.list a.2 b.2 i,
    )

right_prop : (t : TaskView) (x : Outcome) → IsProp (IsRightOutcome t x)
right_prop t x a b = λ i. record {
  job = ℕ_set x.job t.job a.job b.job i;
  version = ℕ_set x.version t.version a.version b.version i;
  piece = ℕ_set x.piece t.piece a.piece b.piece i;
  from = Coded-set coded_place (search_place x.from) t.from a.from b.from i;
  budget = ℕ_set x.budget t.budget a.budget b.budget i;
  end = end_prop t x.end a.end b.end i;
}

pub right_outcome : (t : TaskView) (x : Outcome) → ∥ IsRightOutcome t x ∥₁ → IsRightOutcome t x
right_outcome t x there = ∥∥₁_elim there (right_prop t x) (λ right. right)
