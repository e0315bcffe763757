-- What the rules of circles mean.
use Rattle.std.proofs.Common.{◌≡◌, ℕ, zero, suc, ◌<◌, inl, inr, Bool, true, false, not, List, [], ◌∷◌, length, Some, refl, sym, ap, subst, ◌∙◌, arith}
use Rattle.std.specs.Prelude.{◌↔◌, ◌&&◌, ◌||◌, nat_lt, slice_index_or}
use Rattle.std.specs.Bool.{IsTrue}
use Rattle.std.specs.List.{All, AllPairs, list_any, list_all, slice_get}
use Rattle.std.proofs.lemmas.Bool.{and_parts, and_from, false≢true, ltb-true, lt-ltb, ne_eqb}
use Rattle.std.proofs.lemmas.List.Elements.{All-contains, All-head, All-tail, Contains-get_or}
use Rattle.isometry_map.specs.Folded.{FoldedView}
use Rattle.sign_rules.specs.declared.sign.Sign.{Sign}
use Rattle.sign_rules.specs.declared.sign.Sign.TheVariants.{Under}
use Rattle.sign_rules.specs.declared.rule.Rule.{Rule}
use Rattle.sign_rules.specs.declared.rule.Rule.TheVariants.{NotCyclic}
use Rattle.sign_rules.specs.Signs.{is_over, over_at}
use Rattle.sign_rules.specs.Rule.{is_rule_on, is_met, are_different}
use Rattle.sign_rules.specs.Rules.{are_rules_on, is_decided, is_broken}
use Rattle.layer_rules.specs.declared.face_pairs.FacePair.{FacePair}
use Rattle.layer_rules.specs.FacePairs.{Precedes, IsPairList}
use Rattle.layer_rules.specs.Transitivity.{IsTriple, BreaksTransitivity}
use Rattle.layer_rules.specs.RuleLists.{AreDifferent}
use Rattle.layer_rules.specs.Circles.{AreOrdered, IsCircle, IsCircleRule, StandsBefore, AreCirclesBefore}
use Rattle.layer_rules.proofs.SignPlaces.{pair_of, some_is, get_below, get_reads, read_get, above_placed, below_placed, above_at, below_at}
use Rattle.layer_rules.proofs.FixedRuleLists.{any_passes, passes_any}
use Rattle.layer_rules.proofs.CircleLists.{third_later}

-- ---- one rule on three pairs

pub record TurnsRound (signs : List Sign) (p q t : ℕ) (x : Bool) : Type 0 where
  pub first : Sign
  pub second : Sign
  pub third : Sign
  pub first_at : slice_get signs p ≡ Some first
  pub second_at : slice_get signs q ≡ Some second
  pub third_at : slice_get signs t ≡ Some third
  pub first_is : is_over first ≡ x
  pub second_is : is_over second ≡ x
  pub third_is : is_over third ≡ not x

circle_met : Bool → Bool → Bool → Bool
circle_met a b c = not (a && b && not c) && not (not a && not b && c)

abbrev Round : Bool → Bool → Bool → Type 0
Round a b c = (x : Bool) × (a ≡ x) × (b ≡ x) × (c ≡ not x)

round_of : (a b c : Bool) → not (circle_met a b c) ≡ true → Round a b c
unfolding circle_met
round_of true true true h = absurd (false≢true h)
round_of true true false h = (true, refl, refl, refl)
round_of true false true h = absurd (false≢true h)
round_of true false false h = absurd (false≢true h)
round_of false true true h = absurd (false≢true h)
round_of false true false h = absurd (false≢true h)
round_of false false true h = (false, refl, refl, refl)
round_of false false false h = absurd (false≢true h)

of_round : (a b c x : Bool) → a ≡ x → b ≡ x → c ≡ not x → not (circle_met a b c) ≡ true
unfolding circle_met
of_round a b c true e f g = λ i. not (not (e i && f i && not (g i)) && not (not (e i) && not (f i) && g i))
of_round a b c false e f g = λ i. not (not (e i && f i && not (g i)) && not (not (e i) && not (f i) && g i))

pub broken_circle : (signs : List Sign) (p q t : ℕ) → is_broken signs (NotCyclic p q t) ≡ true
    → (x : Bool) × TurnsRound signs p q t x
unfolding circle_met
broken_circle signs p q t h =
    let parts = and_parts (is_decided (length signs) (NotCyclic p q t)) (not (is_met signs (NotCyclic p q t))) h in
    let n = length signs in
    let one = and_parts (nat_lt p n) (nat_lt q n && (nat_lt t n && true)) parts.0 in
    let two = and_parts (nat_lt q n) (nat_lt t n && true) one.1 in
    let three = and_parts (nat_lt t n) true two.1 in
    let round = round_of (over_at signs p) (over_at signs q) (over_at signs t) parts.1 in (
      round.0,
      record {
        first = slice_index_or signs p Under;
        second = slice_index_or signs q Under;
        third = slice_index_or signs t Under;
        first_at = read_get signs p Under (ltb-true p n one.0);
        second_at = read_get signs q Under (ltb-true q n two.0);
        third_at = read_get signs t Under (ltb-true t n three.0);
        first_is = round.1;
        second_is = round.2;
        third_is = round.3;
      },
    )

pub circle_broken : (signs : List Sign) (p q t : ℕ) (x : Bool) → TurnsRound signs p q t x
    → is_broken signs (NotCyclic p q t) ≡ true
unfolding circle_met
circle_broken signs p q t x h =
    let n = length signs in
    and_from (is_decided n (NotCyclic p q t)) (not (is_met signs (NotCyclic p q t)))
    (and_from (nat_lt p n) (nat_lt q n && (nat_lt t n && true)) (lt-ltb p n (get_below signs p h.first h.first_at))
    (and_from (nat_lt q n) (nat_lt t n && true) (lt-ltb q n (get_below signs q h.second h.second_at))
    (and_from (nat_lt t n) true (lt-ltb t n (get_below signs t h.third h.third_at)) refl)))
    (of_round (over_at signs p) (over_at signs q) (over_at signs t) x
    (ap is_over (get_reads signs p h.first Under h.first_at) ∙ h.first_is)
    (ap is_over (get_reads signs q h.second Under h.second_at) ∙ h.second_is)
    (ap is_over (get_reads signs t h.third Under h.third_at) ∙ h.third_is))

twice_not : (x : Bool) → not (not x) ≡ x
twice_not true = refl
twice_not false = refl

other_side : (a x : Bool) → not a ≡ x → a ≡ not x
other_side true x e = ap not e
other_side false x e = ap not e

-- ---- all of them

module _ (shape : FoldedView) (pairs : List FacePair) (list : IsPairList shape pairs) (signs : List Sign) where
  triple_of : (ij jk ik : ℕ) (c : IsCircle shape pairs ij jk ik) → IsTriple shape c.i c.j c.k
  triple_of ij jk ik c = record {
    ascending = c.ascending;
    still_ascending = c.still_ascending;
    point = c.point;
    in_first = c.in_first;
    in_second = c.in_second;
    in_third = c.in_third;
  }

  pub circles_break : (rules : List Rule) → AreCirclesBefore shape pairs (length pairs) 0 rules
      → IsTrue (list_any (is_broken signs) rules) → BreaksTransitivity shape pairs signs
  circles_break rules h broken =
      let found = any_passes (is_broken signs) rules broken in
      let rule = All-contains (IsCircleRule shape pairs) rules found.0 h.sound found.1 in
      let c = rule.circle in
      let round = broken_circle signs rule.ij rule.jk rule.ik (ap (is_broken signs) (sym rule.is) ∙ found.2) in
      let w = round.1 in (
        c.i,
        c.j,
        c.k,
        round.0,
        triple_of rule.ij rule.jk rule.ik c,
        above_at pairs signs rule.ij c.i c.j w.first list.ascending c.ascending c.first w.first_at ∙ ap Some w.first_is,
        above_at pairs signs rule.jk c.j c.k w.second list.ascending c.still_ascending c.second w.second_at
            ∙ ap Some w.second_is,
        below_at pairs signs rule.ik c.i c.k w.third list.ascending (omega arith) c.third w.third_at
            ∙ ap Some (ap not w.third_is ∙ twice_not round.0),
      )

  pub breaks_circles : (rules : List Rule) → AreCirclesBefore shape pairs (length pairs) 0 rules
      → BreaksTransitivity shape pairs signs → IsTrue (list_any (is_broken signs) rules)
  breaks_circles rules h b =
      let i = b.0 in
      let j = b.1 in
      let k = b.2 in
      let x = b.3 in
      let triple = b.4 in
      let one = above_placed pairs signs i j x triple.ascending b.5 in
      let two = above_placed pairs signs j k x triple.still_ascending b.6 in
      let lower : i < k = omega (arith, triple.ascending, triple.still_ascending) in
      let three = below_placed pairs signs i k x lower b.7 in
      let circle : IsCircle shape pairs one.1.place two.1.place three.1.place = record {
        i = i;
        j = j;
        k = k;
        ascending = triple.ascending;
        still_ascending = triple.still_ascending;
        first = one.1.pair;
        second = two.1.pair;
        third = three.1.pair;
        point = triple.point;
        in_first = triple.in_first;
        in_second = triple.in_second;
        in_third = triple.in_third;
      } in
      let here = h.complete one.1.place two.1.place three.1.place circle
      (inl (get_below pairs one.1.place (pair_of i j) one.1.pair)) in
      passes_any (is_broken signs) rules (NotCyclic one.1.place two.1.place three.1.place) here
      (circle_broken signs one.1.place two.1.place three.1.place x (record {
        first = one.0;
        second = two.0;
        third = three.0;
        first_at = one.1.sign;
        second_at = two.1.sign;
        third_at = three.1.sign;
        first_is = one.2;
        second_is = two.2;
        third_is = other_side (is_over three.0) x three.2;
      }))

-- ---- their pairs, and that each is there once

all_tests : {X : Type 0} (test : X → Bool) (xs : List X) → All (λ x. test x ≡ true) xs
    → list_all test xs ≡ true
all_tests test [] h = refl
all_tests test (x ∷ xs) h =
    and_from (test x) (list_all test xs) (All-head (λ x. test x ≡ true) x xs h)
    (all_tests test xs (All-tail (λ x. test x ≡ true) x xs h))

three_differ : (p q t : ℕ) → (p ≡ q → ⊥) → (p ≡ t → ⊥) → (q ≡ t → ⊥) → are_different (p ∷ q ∷ t ∷ []) ≡ true
three_differ p q t a b c =
    λ i. not (ne_eqb p q a i || (ne_eqb p t b i || false)) && (not (ne_eqb q t c i || false) && (not false && true))

module _ (shape : FoldedView) (pairs : List FacePair) (up : AllPairs Precedes pairs) where
  middle_differs : (n p q t : ℕ) (c : IsCircle shape pairs p q t) → (pair : FacePair)
      → slice_get pairs n ≡ Some pair
      → pair.i ≡ c.i → n ≡ q → ⊥
  middle_differs n p q t c pair e first same =
      let at : slice_get pairs q ≡ Some pair = subst (λ (m : ℕ). slice_get pairs m ≡ Some pair) same e in
      let one : pair ≡ pair_of c.j c.k = some_is pair (pair_of c.j c.k) (sym at ∙ c.second) in
      omega (arith, c.ascending, first, ap (λ (t : FacePair). t.i) one)

  circle_on : (rule : Rule) → IsCircleRule shape pairs rule → is_rule_on (length pairs) rule ≡ true
  circle_on rule r =
      let c = r.circle in
      let n = length pairs in
      let below : (m : ℕ) (pair : FacePair) → slice_get pairs m ≡ Some pair → nat_lt m n ≡ true =
      λ m pair e. lt-ltb m n (get_below pairs m pair e) in
      ap (is_rule_on n) r.is
      ∙ and_from (list_all (λ p. nat_lt p n) (r.ij ∷ r.jk ∷ r.ik ∷ [])) (are_different (r.ij ∷ r.jk ∷ r.ik ∷ []))
      (and_from (nat_lt r.ij n) (nat_lt r.jk n && (nat_lt r.ik n && true)) (below r.ij (pair_of c.i c.j) c.first)
      (and_from (nat_lt r.jk n) (nat_lt r.ik n && true) (below r.jk (pair_of c.j c.k) c.second)
      (and_from (nat_lt r.ik n) true (below r.ik (pair_of c.i c.k) c.third) refl)))
      (three_differ r.ij r.jk r.ik
      (λ e. middle_differs r.ij r.ij r.jk r.ik c (pair_of c.i c.j) c.first refl e)
      (λ e. omega (arith, e, third_later shape pairs up r.ij r.jk r.ik c))
      (λ e. middle_differs r.ik r.ij r.jk r.ik c (pair_of c.i c.k) c.third refl (sym e)))

  pub circles_on : (p t : ℕ) (rules : List Rule) → AreCirclesBefore shape pairs p t rules
      → IsTrue (are_rules_on (length pairs) rules)
  circles_on p t rules h =
      all_tests (is_rule_on (length pairs)) rules (λ k d below. circle_on _ (h.sound k d below))

  pub circles_differ : (p t : ℕ) (rules : List Rule) → AreCirclesBefore shape pairs p t rules
      → AreDifferent rules
  circles_differ p t rules h =
      λ i j d less below same.
      not_itself (slice_index_or rules j d)
      (subst (λ (r : Rule). StandsBefore r (slice_index_or rules j d)) same (h.ascending i j d less below))
    where
      not_itself : (r : Rule) → StandsBefore r r → ⊥
      not_itself r b = elim b [ inl less ↦ omega (arith, less) | inr twice ↦ omega (arith, twice.1) ]

-- ---- the pairs of a shape are pairs of its faces, in order

pub pairs_ordered : (shape : FoldedView) (pairs : List FacePair) → IsPairList shape pairs
    → AreOrdered (length shape.faces) pairs
pairs_ordered shape pairs list = record {
  ascending = list.ascending;
  in_range = λ k d below.
      let is = (list.complete (slice_index_or pairs k d)).0 (Contains-get_or pairs k d below) in
      (is.first, is.ascending, is.last);
}
