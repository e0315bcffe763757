-- Rules that are put behind others, one after another.
use Rattle.std.proofs.Common.{◌≡◌, ℕ, ◌+◌, ◌*◌, ◌≤◌, ◌⊎◌, inl, inr, Bool, true, false, List, [], ◌∷◌, ◌++◌, length, Option, Some, None, refl, sym, ap, subst, ◌∙◌, arith}
use Rattle.std.specs.Prelude.{◌↔◌, ◌||◌}
use Rattle.std.specs.Bool.{IsTrue}
use Rattle.std.specs.List.{Contains, list_any, slice_get}
use Rattle.std.specs.Option.{option_to_list}
use Rattle.std.proofs.lemmas.Bool.{or_cases, and_from, cases_lt, false≢true}
use Rattle.std.proofs.lemmas.List.{append-nil, length-append}
use Rattle.std.proofs.lemmas.List.Folds.{list_any-append, list_all-append}
use Rattle.sign_rules.specs.declared.sign.Sign.{Sign}
use Rattle.sign_rules.specs.declared.rule.Rule.{Rule}
use Rattle.sign_rules.specs.Rule.{is_rule_on}
use Rattle.sign_rules.specs.Rules.{are_rules_on, is_broken}
use Rattle.layer_rules.specs.RuleMeaning.{IsRuleFor, MakesRule, MakesRules, ForSomeBelow}
use Rattle.layer_rules.proofs.SignPlaces.{some_is, get_contains, read_get}

or_first : (a b : Bool) → a ≡ true → (a || b) ≡ true
or_first true b e = refl
or_first false b e = absurd (false≢true e)

or_second : (a b : Bool) → b ≡ true → (a || b) ≡ true
or_second true b e = refl
or_second false b e = e

or_true : (a : Bool) → (a || false) ≡ true → a ≡ true
or_true true e = refl
or_true false e = e

module _ (count : ℕ) (Breaks : List Sign → Type 0) where
  nothing_made : (most : ℕ) (rules : List Rule) → ((signs : List Sign) → ¬ Breaks signs)
      → MakesRules count most Breaks rules rules
  nothing_made most rules never = record {
    few = omega arith;
    on_pairs = λ on. on;
    meaning = λ signs. (λ any. inl any, λ either. elim either [ inl any ↦ any | inr breaks ↦ absurd (never signs breaks) ]);
  }

  one_made : (rule : Rule) (rules : List Rule) → IsRuleFor count Breaks rule
      → MakesRules count 1 Breaks rules (rules ++ rule ∷ [])
  one_made rule rules is = record {
    few = omega (arith, length-append rules (rule ∷ []));
    on_pairs = λ on.
        list_all-append (is_rule_on count) rules (rule ∷ []) ∙ and_from _ _ on (and_from _ _ is.on_pairs refl);
    meaning = λ signs. (
      λ any.
          elim (or_cases (list_any (is_broken signs) rules) (list_any (is_broken signs) (rule ∷ []))
          (sym (list_any-append (is_broken signs) rules (rule ∷ [])) ∙ any)) [
            | inl before ↦ inl before
            | inr last ↦ inr ((is.meaning signs).0 (or_true (is_broken signs rule) last))
          ],
      λ either.
          list_any-append (is_broken signs) rules (rule ∷ [])
          ∙ elim either [
            | inl any ↦ or_first (list_any (is_broken signs) rules) (list_any (is_broken signs) (rule ∷ [])) any
            | inr breaks ↦
                or_second (list_any (is_broken signs) rules) (list_any (is_broken signs) (rule ∷ []))
                (or_first (is_broken signs rule) false ((is.meaning signs).1 breaks))
          ],
    );
  }

  pub rule_made : (found : Option Rule) (old new : List Rule) → MakesRule count Breaks found
      → new ≡ old ++ option_to_list found → MakesRules count 1 Breaks old new
  rule_made None old new never e =
      subst (λ (l : List Rule). MakesRules count 1 Breaks old l) (sym (e ∙ append-nil old)) (nothing_made 1 old never)
  rule_made (Some rule) old new is e =
      subst (λ (l : List Rule). MakesRules count 1 Breaks old l) (sym e) (one_made rule old is)

module _ (count each : ℕ) (Breaks : ℕ → List Sign → Type 0) where
  pub none_made : (rules : List Rule) → MakesRules count (0 * each) (ForSomeBelow Breaks 0) rules rules
  none_made rules = nothing_made count (ForSomeBelow Breaks 0) (0 * each) rules (λ signs some. omega (arith, some.1))

  pub more_made : (n : ℕ) (old mid new : List Rule) → MakesRules count (n * each) (ForSomeBelow Breaks n) old mid
      → MakesRules count each (Breaks n) mid new
      → MakesRules count ((n + 1) * each) (ForSomeBelow Breaks (n + 1)) old new
  more_made n old mid new h k = record {
    few = omega (arith, h.few, k.few);
    on_pairs = λ on. k.on_pairs (h.on_pairs on);
    meaning = λ signs. (
      λ any.
          elim ((k.meaning signs).0 any) [
            | inl before ↦
                elim ((h.meaning signs).0 before) [
                  | inl first ↦ inl first
                  | inr some ↦ inr (some.0, omega (arith, some.1), some.2)
                ]
            | inr last ↦ inr (n, omega arith, last)
          ],
      λ either.
          (k.meaning signs).1
          (elim either [
            | inl first ↦ inl ((h.meaning signs).1 (inl first))
            | inr some ↦ at_or_before signs some
          ]),
    );
  }
    where
      at_or_before : (signs : List Sign) → ForSomeBelow Breaks (n + 1) signs
          → IsTrue (list_any (is_broken signs) mid) ⊎ Breaks n signs
      at_or_before signs some =
          elim (cases_lt some.0 n) [
            | inl less ↦ inl ((h.meaning signs).1 (inr (some.0, less, some.2)))
            | inr more ↦
                (let same : some.0 ≡ n = omega (arith, more, some.1) in
                inr (subst (λ (m : ℕ). Breaks m signs) same some.2))
          ]

-- what is broken of rules that were made from nothing
pub from_nothing : (count most : ℕ) (Breaks : List Sign → Type 0) (rules : List Rule)
    → MakesRules count most Breaks [] rules → (signs : List Sign)
    → IsTrue (list_any (is_broken signs) rules) ↔ Breaks signs
from_nothing count most Breaks rules h signs = (
  λ any. elim ((h.meaning signs).0 any) [ inl none ↦ absurd (false≢true none) | inr breaks ↦ breaks ],
  λ breaks. (h.meaning signs).1 (inr breaks),
)

pub on_from_nothing : (count most : ℕ) (Breaks : List Sign → Type 0) (rules : List Rule)
    → MakesRules count most Breaks [] rules → IsTrue (are_rules_on count rules)
on_from_nothing count most Breaks rules h = h.on_pairs refl

-- the same lists
pub same_made : (count most : ℕ) (A B : List Sign → Type 0) (old new : List Rule)
    → ((signs : List Sign) → A signs ↔ B signs) → MakesRules count most A old new → MakesRules count most B old new
same_made count most A B old new same h = record {
  few = h.few;
  on_pairs = h.on_pairs;
  meaning = λ signs. (
    λ any. elim ((h.meaning signs).0 any) [ inl before ↦ inl before | inr breaks ↦ inr ((same signs).0 breaks) ],
    λ either.
        (h.meaning signs).1 (elim either [ inl before ↦ inl before | inr breaks ↦ inr ((same signs).1 breaks) ]),
  );
}

-- ---- for each element of a list

module _ {X : Type 0} (count : ℕ) (xs : List X) (Breaks : X → List Sign → Type 0) where
  abbrev pub AtPlace : ℕ → List Sign → Type 0
  AtPlace n signs = (x : X) × (slice_get xs n ≡ Some x) × Breaks x signs

  pub place_made : (most n : ℕ) (x : X) (old new : List Rule) → slice_get xs n ≡ Some x
      → MakesRules count most (Breaks x) old new → MakesRules count most (AtPlace n) old new
  place_made most n x old new e h =
      same_made count most (Breaks x) (AtPlace n) old new
      (λ signs. (
        λ breaks. (x, e, breaks),
        λ at. subst (λ (y : X). Breaks y signs) (some_is at.0 x (sym at.1 ∙ e)) at.2,
      ))
      h

  pub at_all_places : (end : ℕ) → length xs ≤ end → (signs : List Sign)
      → ForSomeBelow AtPlace end signs ↔ ((x : X) × Contains xs x × Breaks x signs)
  at_all_places end all signs = (
    λ some. (some.2.0, get_contains xs some.0 some.2.0 some.2.1, some.2.2),
    λ there. (
      there.1.0,
      omega (arith, there.1.1, all),
      (there.0, read_get xs there.1.0 there.0 there.1.1 ∙ ap Some there.1.2, there.2),
    ),
  )

  -- for all elements
  pub list_made : (most end : ℕ) (old new : List Rule) → length xs ≤ end
      → MakesRules count most (ForSomeBelow AtPlace end) old new
      → MakesRules count most (λ signs. (x : X) × Contains xs x × Breaks x signs) old new
  list_made most end old new all h =
      same_made count most (ForSomeBelow AtPlace end) (λ signs. (x : X) × Contains xs x × Breaks x signs) old new
      (at_all_places end all) h
