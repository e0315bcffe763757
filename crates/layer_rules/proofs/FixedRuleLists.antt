-- What the rules of creases mean.
use Rattle.std.proofs.Common.{◌≡◌, ℕ, zero, suc, ◌+◌, ◌<◌, ◌≤◌, ◌⊎◌, inl, inr, Bool, true, false, cond, not, List, [], ◌∷◌, ◌++◌, length, drop, Option, Some, None, refl, sym, ap, subst, ◌∙◌, arith}
use Rattle.std.specs.Prelude.{◌&&◌, ◌||◌, ◌==◌, nat_lt, slice_index_or}
use Rattle.std.specs.Bool.{IsTrue}
use Rattle.std.specs.List.{Contains, list_any, slice_get}
use Rattle.std.proofs.lemmas.Bool.{and_parts, and_from, true≢false, false≢true, cases_lt, ltb-true, lt-ltb}
use Rattle.std.proofs.lemmas.List.{append-nil, drop_all}
use Rattle.std.proofs.lemmas.List.Elements.{Contains-append_left, Contains-append_right, Contains-append_cases}
use Rattle.crease_model.specs.declared.Kind.{Kind}
use Rattle.crease_model.specs.declared.Kind.TheVariants.{Edge, Mountain, Valley, Aux, Unassigned}
use Rattle.isometry_map.specs.declared.folded.CreaseImage.{CreaseImage}
use Rattle.isometry_map.specs.Folded.{FoldedView}
use Rattle.sign_rules.specs.declared.sign.Sign.{Sign}
use Rattle.sign_rules.specs.declared.sign.Sign.TheVariants.{Over, Under}
use Rattle.sign_rules.specs.declared.rule.Rule.{Rule}
use Rattle.sign_rules.specs.declared.rule.Rule.TheVariants.{Fixed}
use Rattle.sign_rules.specs.Signs.{is_over, over_at}
use Rattle.sign_rules.specs.Rule.{is_same, is_met}
use Rattle.sign_rules.specs.Rules.{is_decided, is_broken}
use Rattle.layer_rules.specs.declared.face_pairs.FacePair.{FacePair}
use Rattle.layer_rules.specs.Faces.{numbered, turned_at, is_shared_by}
use Rattle.layer_rules.specs.FacePairs.{IsPairList}
use Rattle.layer_rules.specs.Above.{above}
use Rattle.layer_rules.specs.CreaseCondition.{front_is_above, IsFold, BreaksCreaseCondition}
use Rattle.layer_rules.specs.FixedRules.{sign_for, sign_across, is_given, is_wanted, fixed_rule, fixed_rules, fixed_rules_from}
use Rattle.layer_rules.proofs.Ordered.{here, there, either, none}
use Rattle.layer_rules.proofs.SignPlaces.{pair_of, some_is, none_is_not_some, get_contains, get_below, get_reads, read_get, above_placed, below_placed, above_at, below_at}

-- ---- tests of some element

module _ {X : Type 0} (test : X → Bool) where
  any_first : (x : X) (xs : List X) (b : Bool) → test x ≡ b → list_any test (x ∷ xs) ≡ true
      → (list_any test xs ≡ true → (z : X) × Contains xs z × (test z ≡ true))
      → (z : X) × Contains (x ∷ xs) z × (test z ≡ true)
  any_first x xs true e h later = (x, here x xs, e)
  any_first x xs false e h later =
      let rest = later (ap (λ (b : Bool). b || list_any test xs) (sym e) ∙ h) in
      (rest.0, there x xs rest.0 rest.1, rest.2)

  pub any_passes : (xs : List X) → list_any test xs ≡ true → (z : X) × Contains xs z × (test z ≡ true)
  any_passes [] h = absurd (false≢true h)
  any_passes (x ∷ xs) h = any_first x xs (test x) refl h (λ rest. any_passes xs rest)

  or_right : (a b : Bool) → b ≡ true → (a || b) ≡ true
  or_right true b e = refl
  or_right false b e = e

  pub passes_any : (xs : List X) (z : X) → Contains xs z → test z ≡ true → list_any test xs ≡ true
  passes_any [] z m e = absurd (none z m)
  passes_any (x ∷ xs) z m e =
      elim (either x xs z m) [
        | inl same ↦ ap (λ (b : Bool). b || list_any test xs) (ap test same ∙ e)
        | inr later ↦ or_right (test x) (list_any test xs) (passes_any xs z later e)
      ]

-- ---- a rule on one pair

same_not : (a b : Bool) → not (is_same a b) ≡ true → a ≡ not b
same_not true true h = absurd (false≢true h)
same_not true false h = refl
same_not false true h = refl
same_not false false h = absurd (false≢true h)

not_same : (a b : Bool) → a ≡ not b → not (is_same a b) ≡ true
not_same true true h = absurd (true≢false h)
not_same true false h = refl
not_same false true h = refl
not_same false false h = absurd (false≢true h)

-- a list breaks it where it gives the pair the other sign
pub broken_fixed : (signs : List Sign) (p : ℕ) (s : Sign) → is_broken signs (Fixed p s) ≡ true
    → (t : Sign) × (slice_get signs p ≡ Some t) × (is_over t ≡ not (is_over s))
broken_fixed signs p s h =
    let parts = and_parts (is_decided (length signs) (Fixed p s)) (not (is_met signs (Fixed p s))) h in
    let below = ltb-true p (length signs) (and_parts (nat_lt p (length signs)) true parts.0).0 in
    (slice_index_or signs p Under, read_get signs p Under below, same_not (over_at signs p) (is_over s) parts.1)

pub fixed_broken : (signs : List Sign) (p : ℕ) (s t : Sign) → slice_get signs p ≡ Some t
    → is_over t ≡ not (is_over s) → is_broken signs (Fixed p s) ≡ true
fixed_broken signs p s t e other =
    and_from (is_decided (length signs) (Fixed p s)) (not (is_met signs (Fixed p s)))
    (and_from (nat_lt p (length signs)) true (lt-ltb p (length signs) (get_below signs p t e)) refl)
    (not_same (over_at signs p) (is_over s) (ap is_over (get_reads signs p t Under e) ∙ other))

-- ---- the rules of all pairs

module _ (shape : FoldedView) (kinds : List Kind) where
  pub record IsFixedRule (p : ℕ) (pairs : List FacePair) (rule : Rule) : Type 0 where
    pub place : ℕ
    pub pair : FacePair
    pub sign : Sign
    pub there : slice_get pairs place ≡ Some pair
    pub wanted : is_wanted shape kinds pair sign ≡ true
    pub is : rule ≡ Fixed (p + place) sign

  one_rule : (b : Bool) (p : ℕ) (s : Sign) (rule : Rule) → Contains (fixed_rule b p s) rule
      → (b ≡ true) × (rule ≡ Fixed p s)
  one_rule true p s rule m =
      elim (either (Fixed p s) [] rule m) [ inl e ↦ (refl, sym e) | inr later ↦ absurd (none rule later) ]
  one_rule false p s rule m = absurd (none rule m)

  in_one_rule : (b : Bool) (p : ℕ) (s : Sign) → b ≡ true → Contains (fixed_rule b p s) (Fixed p s)
  in_one_rule true p s e = here (Fixed p s) []
  in_one_rule false p s e = absurd (false≢true e)

  pub rules_of_pair : (p : ℕ) (pair : FacePair) (rule : Rule) → Contains (fixed_rules shape kinds p pair) rule
      → (s : Sign) × (is_wanted shape kinds pair s ≡ true) × (rule ≡ Fixed p s)
  unfolding fixed_rules
  rules_of_pair p pair rule m =
      elim (Contains-append_cases (fixed_rule (is_wanted shape kinds pair Over) p Over)
      (fixed_rule (is_wanted shape kinds pair Under) p Under) rule m) [
        | inl n ↦ (let h = one_rule (is_wanted shape kinds pair Over) p Over rule n in (Over, h.0, h.1))
        | inr n ↦ (let h = one_rule (is_wanted shape kinds pair Under) p Under rule n in (Under, h.0, h.1))
      ]

  pub pair_has_rule : (p : ℕ) (pair : FacePair) (s : Sign) → is_wanted shape kinds pair s ≡ true
      → Contains (fixed_rules shape kinds p pair) (Fixed p s)
  unfolding fixed_rules
  pair_has_rule p pair Over e =
      Contains-append_left (fixed_rule (is_wanted shape kinds pair Over) p Over)
      (fixed_rule (is_wanted shape kinds pair Under) p Under) (Fixed p Over)
      (in_one_rule (is_wanted shape kinds pair Over) p Over e)
  pair_has_rule p pair Under e =
      Contains-append_right (fixed_rule (is_wanted shape kinds pair Over) p Over)
      (fixed_rule (is_wanted shape kinds pair Under) p Under) (Fixed p Under)
      (in_one_rule (is_wanted shape kinds pair Under) p Under e)

  -- each rule is that of a wanted sign of a pair
  pub rule_is_fixed : (p : ℕ) (pairs : List FacePair) (rule : Rule)
      → Contains (fixed_rules_from shape kinds p pairs) rule → IsFixedRule p pairs rule
  rule_is_fixed p [] rule m = absurd (none rule m)
  rule_is_fixed p (pair ∷ pairs) rule m =
      elim (Contains-append_cases (fixed_rules shape kinds p pair) (fixed_rules_from shape kinds (p + 1) pairs) rule m) [
        | inl n ↦
            (let h = rules_of_pair p pair rule n in
            record {
              place = 0;
              pair = pair;
              sign = h.0;
              there = refl;
              wanted = h.1;
              is = h.2 ∙ ap (λ (q : ℕ). Fixed q h.0) (omega arith);
            })
        | inr n ↦
            (let h = rule_is_fixed (p + 1) pairs rule n in
            record {
              place = suc h.place;
              pair = h.pair;
              sign = h.sign;
              there = h.there;
              wanted = h.wanted;
              is = h.is ∙ ap (λ (q : ℕ). Fixed q h.sign) (omega arith);
            })
      ]

  -- and each wanted sign of a pair has its rule
  pub fixed_is_rule : (p : ℕ) (pairs : List FacePair) (n : ℕ) (pair : FacePair) (s : Sign)
      → slice_get pairs n ≡ Some pair → is_wanted shape kinds pair s ≡ true
      → Contains (fixed_rules_from shape kinds p pairs) (Fixed (p + n) s)
  fixed_is_rule p [] n pair s e wanted = absurd (none_is_not_some pair e)
  fixed_is_rule p (q ∷ qs) zero pair s e wanted =
      let first = pair_has_rule p q s (ap (λ (t : FacePair). is_wanted shape kinds t s) (some_is q pair e) ∙ wanted) in
      let same : p ≡ p + 0 = omega arith in
      Contains-append_left (fixed_rules shape kinds p q) (fixed_rules_from shape kinds (p + 1) qs) (Fixed (p + 0) s)
      (subst (λ (k : ℕ). Contains (fixed_rules shape kinds p q) (Fixed k s)) same first)
  fixed_is_rule p (q ∷ qs) (suc n) pair s e wanted =
      let same : (p + 1) + n ≡ p + suc n = omega arith in
      Contains-append_right (fixed_rules shape kinds p q) (fixed_rules_from shape kinds (p + 1) qs)
      (Fixed (p + suc n) s)
      (subst (λ (k : ℕ). Contains (fixed_rules_from shape kinds (p + 1) qs) (Fixed k s)) same
      (fixed_is_rule (p + 1) qs n pair s e wanted))

  -- a loop over all pairs has made all of them
  pub whole_list : (rules : List Rule) (p : ℕ) (pairs : List FacePair) (whole : List Rule) → length pairs ≤ p
      → rules ++ fixed_rules_from shape kinds p (drop p pairs) ≡ whole → rules ≡ whole
  whole_list rules p pairs whole all e =
      sym (append-nil rules)
      ∙ ap (λ (l : List FacePair). rules ++ fixed_rules_from shape kinds p l) (sym (drop_all p pairs all)) ∙ e

-- ---- the signs that creases want

given_is : (o : Option Sign) (s : Sign) → is_given o s ≡ true → o ≡ Some s
given_is None Over e = absurd (false≢true e)
given_is None Under e = absurd (false≢true e)
given_is (Some Over) Over e = refl
given_is (Some Over) Under e = absurd (false≢true e)
given_is (Some Under) Over e = absurd (false≢true e)
given_is (Some Under) Under e = refl

is_given_it : (s : Sign) → is_given (Some s) s ≡ true
is_given_it Over = refl
is_given_it Under = refl

-- one face is turned and the other isn't, and the crease is of a kind that puts the one with its front up as the sign says
abbrev Sides : Option Bool → Option Bool → Bool → Sign → Type 0
Sides o p x s =
    ((o ≡ Some false) × (p ≡ Some true) × (is_over s ≡ x)) ⊎ ((o ≡ Some true) × (p ≡ Some false) × (is_over s ≡ not x))

abbrev SignCause : Option Bool → Option Bool → Option Kind → Sign → Type 0
SignCause o p k s = (kind : Kind) × (x : Bool) × (k ≡ Some kind) × (front_is_above kind ≡ Some x) × Sides o p x s

sign_cause : (o p : Option Bool) (k : Option Kind) (s : Sign) → sign_for o p k ≡ Some s → SignCause o p k s
sign_cause (Some false) (Some true) (Some Mountain) s e = (Mountain, true, refl, refl, inl (refl, refl, sym (ap is_over (some_is Over s e))))
sign_cause (Some false) (Some true) (Some Valley) s e = (Valley, false, refl, refl, inl (refl, refl, sym (ap is_over (some_is Under s e))))
sign_cause (Some true) (Some false) (Some Mountain) s e = (Mountain, true, refl, refl, inr (refl, refl, sym (ap is_over (some_is Under s e))))
sign_cause (Some true) (Some false) (Some Valley) s e = (Valley, false, refl, refl, inr (refl, refl, sym (ap is_over (some_is Over s e))))
sign_cause None p k s e = absurd (none_is_not_some s e)
sign_cause (Some false) None k s e = absurd (none_is_not_some s e)
sign_cause (Some false) (Some false) k s e = absurd (none_is_not_some s e)
sign_cause (Some false) (Some true) None s e = absurd (none_is_not_some s e)
sign_cause (Some false) (Some true) (Some Edge) s e = absurd (none_is_not_some s e)
sign_cause (Some false) (Some true) (Some Aux) s e = absurd (none_is_not_some s e)
sign_cause (Some false) (Some true) (Some Unassigned) s e = absurd (none_is_not_some s e)
sign_cause (Some true) None k s e = absurd (none_is_not_some s e)
sign_cause (Some true) (Some true) k s e = absurd (none_is_not_some s e)
sign_cause (Some true) (Some false) None s e = absurd (none_is_not_some s e)
sign_cause (Some true) (Some false) (Some Edge) s e = absurd (none_is_not_some s e)
sign_cause (Some true) (Some false) (Some Aux) s e = absurd (none_is_not_some s e)
sign_cause (Some true) (Some false) (Some Unassigned) s e = absurd (none_is_not_some s e)

abbrev pub sign_when : Bool → Sign
sign_when true = Over
sign_when false = Under

over_when : (x : Bool) → is_over (sign_when x) ≡ x
over_when true = refl
over_when false = refl

sign_first : (kind : Kind) (x : Bool) → front_is_above kind ≡ Some x
    → sign_for (Some false) (Some true) (Some kind) ≡ Some (sign_when x)
sign_first Edge x e = absurd (none_is_not_some x e)
sign_first Mountain x e = ap (λ (b : Bool). Some (sign_when b)) (some_is true x e)
sign_first Valley x e = ap (λ (b : Bool). Some (sign_when b)) (some_is false x e)
sign_first Aux x e = absurd (none_is_not_some x e)
sign_first Unassigned x e = absurd (none_is_not_some x e)

sign_second : (kind : Kind) (x : Bool) → front_is_above kind ≡ Some x
    → sign_for (Some true) (Some false) (Some kind) ≡ Some (sign_when (not x))
sign_second Edge x e = absurd (none_is_not_some x e)
sign_second Mountain x e = ap (λ (b : Bool). Some (sign_when (not b))) (some_is true x e)
sign_second Valley x e = ap (λ (b : Bool). Some (sign_when (not b))) (some_is false x e)
sign_second Aux x e = absurd (none_is_not_some x e)
sign_second Unassigned x e = absurd (none_is_not_some x e)

shared_by_both : (f g : ℕ) (c : CreaseImage) → IsTrue (is_shared_by f g c) → IsTrue (is_shared_by g f c)
shared_by_both f g c h = turned_over (c.a == f && c.b == g) (c.a == g && c.b == f) h
  where
    turned_over : (a b : Bool) → (a || b) ≡ true → (b || a) ≡ true
    turned_over true true e = refl
    turned_over true false e = refl
    turned_over false true e = refl
    turned_over false false e = e

module _ (shape : FoldedView) (kinds : List Kind) (pair : FacePair) (s : Sign) where
  abbrev pub CreaseWants : CreaseImage → Type 0
  CreaseWants c =
      (is_shared_by pair.i pair.j c ≡ true)
      × (sign_for (turned_at shape.faces pair.i) (turned_at shape.faces pair.j) (numbered kinds c.piece) ≡ Some s)

  across : (c : CreaseImage) (b : Bool) → is_shared_by pair.i pair.j c ≡ b
      → sign_across shape.faces kinds pair c ≡ Some s → CreaseWants c
  across c true e h = (
    e,
    ap (λ (t : Bool). cond t (sign_for (turned_at shape.faces pair.i) (turned_at shape.faces pair.j)
        (numbered kinds c.piece)) None) (sym e) ∙ h,
  )
  across c false e h =
      absurd
      (none_is_not_some s
      (ap (λ (t : Bool). cond t (sign_for (turned_at shape.faces pair.i) (turned_at shape.faces pair.j)
      (numbered kinds c.piece)) None) (sym e) ∙ h))

  pub wanted_by : is_wanted shape kinds pair s ≡ true
      → (c : CreaseImage) × Contains shape.creases c × CreaseWants c
  wanted_by h =
      let found = any_passes (λ crease. is_given (sign_across shape.faces kinds pair crease) s) shape.creases h in (
        found.0,
        found.1,
        across found.0 (is_shared_by pair.i pair.j found.0) refl
            (given_is (sign_across shape.faces kinds pair found.0) s found.2),
      )

  pub wants : (c : CreaseImage) → Contains shape.creases c → CreaseWants c
      → is_wanted shape kinds pair s ≡ true
  wants c there h =
      let given : sign_across shape.faces kinds pair c ≡ Some s =
      ap (λ (t : Bool). cond t (sign_for (turned_at shape.faces pair.i) (turned_at shape.faces pair.j)
      (numbered kinds c.piece)) None) h.0 ∙ h.1 in
      passes_any (λ crease. is_given (sign_across shape.faces kinds pair crease) s) shape.creases c there
      (ap (λ (o : Option Sign). is_given o s) given ∙ is_given_it s)

thrice_not : (x : Bool) → not (not (not x)) ≡ not x
thrice_not true = refl
thrice_not false = refl

not_back : (a b : Bool) → not a ≡ not b → a ≡ not (not b)
not_back true true e = refl
not_back true false e = absurd (false≢true e)
not_back false true e = absurd (true≢false e)
not_back false false e = refl

module _ (shape : FoldedView) (kinds : List Kind) (pairs : List FacePair) (list : IsPairList shape pairs) (signs : List Sign) where
  breaks_by : (n : ℕ) (pair : FacePair) (s t : Sign) (c : CreaseImage) → slice_get pairs n ≡ Some pair
      → pair.i < pair.j
      → slice_get signs n ≡ Some t → is_over t ≡ not (is_over s) → Contains shape.creases c
      → is_shared_by pair.i pair.j c ≡ true
      → (kind : Kind) (x : Bool) → numbered kinds c.piece ≡ Some kind → front_is_above kind ≡ Some x
      → Sides (turned_at shape.faces pair.i) (turned_at shape.faces pair.j) x s
      → BreaksCreaseCondition shape kinds pairs signs
  breaks_by n pair s t c at less signed other there shared kind x of_kind front (inl up) = (
    pair.i,
    pair.j,
    kind,
    x,
    record { crease = c; there = there; shared = shared; front = up.0; back = up.1; folded = of_kind },
    front,
    above_at pairs signs n pair.i pair.j t list.ascending less at signed
        ∙ ap Some (other ∙ ap not up.2),
  )
  breaks_by n pair s t c at less signed other there shared kind x of_kind front (inr down) = (
    pair.j,
    pair.i,
    kind,
    x,
    record {
      crease = c;
      there = there;
      shared = shared_by_both pair.i pair.j c shared;
      front = down.1;
      back = down.0;
      folded = of_kind;
    },
    front,
    below_at pairs signs n pair.i pair.j t list.ascending less at signed
        ∙ ap Some (ap not (other ∙ ap not down.2) ∙ thrice_not x),
  )

  pub fixed_breaks : IsTrue (list_any (is_broken signs) (fixed_rules_from shape kinds 0 pairs))
      → BreaksCreaseCondition shape kinds pairs signs
  fixed_breaks h =
      let found = any_passes (is_broken signs) (fixed_rules_from shape kinds 0 pairs) h in
      let rule = rule_is_fixed shape kinds 0 pairs found.0 found.1 in
      let same : found.0 ≡ Fixed rule.place rule.sign =
      rule.is ∙ ap (λ (q : ℕ). Fixed q rule.sign) (omega arith) in
      let broken = broken_fixed signs rule.place rule.sign (ap (is_broken signs) (sym same) ∙ found.2) in
      let is_pair = (list.complete rule.pair).0 (get_contains pairs rule.place rule.pair rule.there) in
      let by = wanted_by shape kinds rule.pair rule.sign rule.wanted in
      let cause = sign_cause (turned_at shape.faces rule.pair.i) (turned_at shape.faces rule.pair.j)
      (numbered kinds by.0.piece) rule.sign by.2.1 in
      breaks_by rule.place rule.pair rule.sign broken.0 by.0 rule.there is_pair.ascending broken.1 broken.2 by.1
      by.2.0 cause.0 cause.1 cause.2 cause.3 cause.4

  broken_by : (n : ℕ) (pair : FacePair) (s t : Sign) → slice_get pairs n ≡ Some pair
      → is_wanted shape kinds pair s ≡ true → slice_get signs n ≡ Some t → is_over t ≡ not (is_over s)
      → IsTrue (list_any (is_broken signs) (fixed_rules_from shape kinds 0 pairs))
  broken_by n pair s t at wanted signed other =
      let zero_more : 0 + n ≡ n = omega arith in
      passes_any (is_broken signs) (fixed_rules_from shape kinds 0 pairs) (Fixed (0 + n) s)
      (fixed_is_rule shape kinds 0 pairs n pair s at wanted)
      (ap (λ (q : ℕ). is_broken signs (Fixed q s)) zero_more ∙ fixed_broken signs n s t signed other)

  first_lower : (f g : ℕ) (kind : Kind) (x : Bool) → IsFold shape kinds f g kind
      → front_is_above kind ≡ Some x → f < g
      → above pairs signs f g ≡ Some (not x)
      → IsTrue (list_any (is_broken signs) (fixed_rules_from shape kinds 0 pairs))
  first_lower f g kind x fold front less says =
      let put = above_placed pairs signs f g (not x) less says in
      let given : sign_for (turned_at shape.faces f) (turned_at shape.faces g) (numbered kinds fold.crease.piece)
      ≡ Some (sign_when x) =
      (λ i. sign_for (fold.front i) (fold.back i) (fold.folded i)) ∙ sign_first kind x front in
      broken_by put.1.place (pair_of f g) (sign_when x) put.0 put.1.pair
      (wants shape kinds (pair_of f g) (sign_when x) fold.crease fold.there (fold.shared, given)) put.1.sign
      (put.2 ∙ ap not (sym (over_when x)))

  second_lower : (f g : ℕ) (kind : Kind) (x : Bool) → IsFold shape kinds f g kind
      → front_is_above kind ≡ Some x → g < f
      → above pairs signs f g ≡ Some (not x)
      → IsTrue (list_any (is_broken signs) (fixed_rules_from shape kinds 0 pairs))
  second_lower f g kind x fold front less says =
      let put = below_placed pairs signs g f (not x) less says in
      let given : sign_for (turned_at shape.faces g) (turned_at shape.faces f) (numbered kinds fold.crease.piece)
      ≡ Some (sign_when (not x)) =
      (λ i. sign_for (fold.back i) (fold.front i) (fold.folded i)) ∙ sign_second kind x front in
      broken_by put.1.place (pair_of g f) (sign_when (not x)) put.0 put.1.pair
      (wants shape kinds (pair_of g f) (sign_when (not x)) fold.crease fold.there
      (shared_by_both f g fold.crease fold.shared, given)) put.1.sign
      (not_back (is_over put.0) x put.2 ∙ ap not (sym (over_when (not x))))

  not_one_face : (f g : ℕ) (kind : Kind) → IsFold shape kinds f g kind → f ≡ g → ⊥
  not_one_face f g kind fold e =
      false≢true (some_is false true (sym fold.front ∙ ap (turned_at shape.faces) e ∙ fold.back))

  pub breaks_fixed : BreaksCreaseCondition shape kinds pairs signs
      → IsTrue (list_any (is_broken signs) (fixed_rules_from shape kinds 0 pairs))
  breaks_fixed h =
      elim (cases_lt h.0 h.1) [
        | inl less ↦ first_lower h.0 h.1 h.2 h.3 h.4 h.5 less h.6
        | inr more ↦
            elim (cases_lt h.1 h.0) [
              | inl less ↦ second_lower h.0 h.1 h.2 h.3 h.4 h.5 less h.6
              | inr same ↦ absurd (not_one_face h.0 h.1 h.2 h.4 (omega arith))
            ]
      ]
