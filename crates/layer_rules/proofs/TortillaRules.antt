-- The rule of a crease and a face that it runs into.
use Rattle.std.proofs.Common.{◌≡◌, ◌≢◌, ℕ, ◌+◌, ◌-◌, ◌<◌, ◌≤◌, ◌⊎◌, inl, inr, Bool, true, false, cond, not, List, [], length, Some, refl, sym, ap, subst, ◌∙◌, arith}
use Rattle.std.specs.Prelude.{◌↔◌, ◌&&◌, ◌||◌, nat_lt, slice_index_or}
use Rattle.std.specs.Bool.{IsTrue}
use Rattle.std.specs.List.{Contains, list_any, slice_get}
use Rattle.std.proofs.Math.Bool.{beq}
use Rattle.std.proofs.lemmas.Bool.{and_parts, and_from, ne_eqb, true≢false, false≢true, lt-ltb, ltb-true}
use Rattle.open_region.specs.declared.Region.{Region}
use Rattle.open_region.specs.Region.{HasPointBetween, IsInRegion}
use Rattle.plane_geometry.specs.Position.{Position}
use Rattle.isometry_map.specs.declared.folded.CreaseImage.{CreaseImage}
use Rattle.isometry_map.specs.Folded.{FoldedView}
use Rattle.sign_rules.specs.declared.sign.Sign.{Sign}
use Rattle.sign_rules.specs.declared.rule.Rule.{Rule}
use Rattle.sign_rules.specs.declared.rule.Rule.TheVariants.{Equal}
use Rattle.sign_rules.specs.Signs.{over_at}
use Rattle.sign_rules.specs.Rule.{is_same, is_rule_on, is_met}
use Rattle.sign_rules.specs.Rules.{is_decided, is_broken}
use Rattle.layer_rules.specs.declared.face_pairs.FacePair.{FacePair}
use Rattle.layer_rules.specs.Faces.{IsInside}
use Rattle.layer_rules.specs.FacePairs.{IsPairList, ArePair}
use Rattle.layer_rules.specs.Above.{above}
use Rattle.layer_rules.specs.FacePlaces.{lesser_first}
use Rattle.layer_rules.specs.RuleMeaning.{IsRuleFor, MakesRules, ForSomeBelow}
use Rattle.layer_rules.specs.TacoTortilla.{RunsInto, PutsBetween, BreaksTacoTortillaAt, BreaksTacoTortilla}
use Rattle.layer_rules.proofs.SignPlaces.{pair_of, some_is, get_below, get_contains}
use Rattle.layer_rules.proofs.RulesMade.{AtPlace, at_all_places, from_nothing}
use Rattle.layer_rules.proofs.PlacedSigns.{pair_there, there_pair, above_decided, above_read}

-- ---- two tests with one answer

pub same_shuffled : (a b x y : Bool) → is_same (is_same a x) (is_same b y) ≡ is_same (is_same x y) (is_same a b)
same_shuffled true true true true = refl
same_shuffled true true true false = refl
same_shuffled true true false true = refl
same_shuffled true true false false = refl
same_shuffled true false true true = refl
same_shuffled true false true false = refl
same_shuffled true false false true = refl
same_shuffled true false false false = refl
same_shuffled false true true true = refl
same_shuffled false true true false = refl
same_shuffled false true false true = refl
same_shuffled false true false false = refl
same_shuffled false false true true = refl
same_shuffled false false true false = refl
same_shuffled false false false true = refl
same_shuffled false false false false = refl

-- the test of the code is the same
pub beq_same : (a b : Bool) → beq a b ≡ is_same a b
beq_same true true = refl
beq_same true false = refl
beq_same false true = refl
beq_same false false = refl

other_one : (x y : Bool) → not (is_same x y) ≡ true → y ≡ not x
other_one true true e = absurd (false≢true e)
other_one true false e = refl
other_one false true e = refl
other_one false false e = absurd (false≢true e)

one_other : (x y : Bool) → y ≡ not x → not (is_same x y) ≡ true
one_other true true e = absurd (true≢false e)
one_other true false e = refl
one_other false true e = refl
one_other false false e = absurd (false≢true e)

pub not_itself : (x : Bool) → x ≡ not x → ⊥
not_itself true e = true≢false e
not_itself false e = false≢true e

-- ---- different faces have different pairs

first_of : (f g : ℕ) (b : Bool) → cond b (pair_of f g) (pair_of g f) ≡ pair_of f g ⊎ cond b (pair_of f g) (pair_of g f) ≡ pair_of g f
first_of f g true = inl refl
first_of f g false = inr refl

parts_of : (f g h k : ℕ) → pair_of f g ≡ pair_of h k → (f ≡ h) × (g ≡ k)
parts_of f g h k e = (ap (λ (p : FacePair). p.i) e, ap (λ (p : FacePair). p.j) e)

pub one_pair_of : (f g h k : ℕ) → lesser_first f g ≡ lesser_first h k → ((f ≡ h) × (g ≡ k)) ⊎ ((f ≡ k) × (g ≡ h))
one_pair_of f g h k e =
    elim (first_of f g (nat_lt f g)) [
      | inl a ↦
          elim (first_of h k (nat_lt h k)) [
            | inl b ↦ inl (parts_of f g h k (sym a ∙ e ∙ b))
            | inr b ↦ inr (parts_of f g k h (sym a ∙ e ∙ b))
          ]
      | inr a ↦
          elim (first_of h k (nat_lt h k)) [
            | inl b ↦ (let parts = parts_of g f h k (sym a ∙ e ∙ b) in inr (parts.1, parts.0))
            | inr b ↦ (let parts = parts_of g f k h (sym a ∙ e ∙ b) in inl (parts.1, parts.0))
          ]
    ]

pub other_place : (pairs : List FacePair) (f g h k p q : ℕ) → slice_get pairs p ≡ Some (lesser_first f g)
    → slice_get pairs q ≡ Some (lesser_first h k) → p ≡ q → lesser_first f g ≡ lesser_first h k
other_place pairs f g h k p q e e' same =
    some_is (lesser_first f g) (lesser_first h k) (sym e ∙ ap (slice_get pairs) same ∙ e')

-- ---- the rule

module _ (shape : FoldedView) (pairs : List FacePair) (list : IsPairList shape pairs) (crease : CreaseImage) (u p q : ℕ)
    (at : slice_get pairs p ≡ Some (lesser_first crease.a u))
    (at' : slice_get pairs q ≡ Some (lesser_first crease.b u)) where
  abbrev rule : Rule
  rule = Equal p q (is_same (nat_lt crease.a u) (nat_lt crease.b u))

  two_places : crease.a ≢ crease.b → p ≡ q → ⊥
  two_places apart same =
      elim (one_pair_of crease.a u crease.b u (other_place pairs crease.a u crease.b u p q at at' same)) [
        | inl e ↦ apart e.0
        | inr e ↦ apart (e.0 ∙ e.1)
      ]

  on_pairs : crease.a ≢ crease.b → IsTrue (is_rule_on (length pairs) rule)
  on_pairs apart =
      let first = get_below pairs p (lesser_first crease.a u) at in
      let second = get_below pairs q (lesser_first crease.b u) at' in
      let below_p = lt-ltb p (length pairs) first in
      let below_q = lt-ltb q (length pairs) second in
      let other = ne_eqb p q (two_places apart) in
      λ i. (below_p i && (below_q i && true)) && (not (other i || false) && (not false && true))

  broken_between : (signs : List Sign) → IsTrue (is_broken signs rule) → PutsBetween pairs signs crease u
  broken_between signs h =
      let parts = and_parts (is_decided (length signs) rule) (not (is_met signs rule)) h in
      let first = and_parts (nat_lt p (length signs)) (nat_lt q (length signs) && true) parts.0 in
      let second = and_parts (nat_lt q (length signs)) true first.1 in
      let x = over_at signs p in
      let y = over_at signs q in
      let a = nat_lt crease.a u in
      let b = nat_lt crease.b u in (
        is_same a x,
        above_read pairs list.ascending signs crease.a u p at (ltb-true p (length signs) first.0),
        above_read pairs list.ascending signs crease.b u q at' (ltb-true q (length signs) second.0)
            ∙ ap Some (other_one (is_same a x) (is_same b y) (ap not (same_shuffled a b x y) ∙ parts.1)),
      )

  between_broken : (signs : List Sign) → PutsBetween pairs signs crease u → IsTrue (is_broken signs rule)
  between_broken signs h =
      let first = above_decided pairs list.ascending signs crease.a u p at h.0 h.1 in
      let second = above_decided pairs list.ascending signs crease.b u q at' (not h.0) h.2 in
      let x = over_at signs p in
      let y = over_at signs q in
      let a = nat_lt crease.a u in
      let b = nat_lt crease.b u in
      and_from (is_decided (length signs) rule) (not (is_met signs rule))
      (and_from (nat_lt p (length signs)) (nat_lt q (length signs) && true) (lt-ltb p (length signs) first.0)
      (and_from (nat_lt q (length signs)) true (lt-ltb q (length signs) second.0) refl))
      (ap not (sym (same_shuffled a b x y))
      ∙ one_other (is_same a x) (is_same b y) (second.1 ∙ ap not (sym first.1)))

  pub rule_for : crease.a ≢ crease.b → RunsInto shape crease u
      → IsRuleFor (length pairs) (BreaksTacoTortillaAt shape pairs crease u) rule
  rule_for apart enters = record {
    on_pairs = on_pairs apart;
    meaning = λ signs. (
      λ broken. (
        record {
          enters = enters;
          first_pair = there_pair shape pairs list crease.a u
              (get_contains pairs p (lesser_first crease.a u) at);
          second_pair = there_pair shape pairs list crease.b u
              (get_contains pairs q (lesser_first crease.b u) at');
        },
        broken_between signs broken,
      ),
      λ breaks. between_broken signs breaks.1,
    );
  }

-- ---- where there is none

module _ (shape : FoldedView) (pairs : List FacePair) (crease : CreaseImage) (u : ℕ) (signs : List Sign) where
  pub one_face : crease.a ≡ crease.b → BreaksTacoTortillaAt shape pairs crease u signs → ⊥
  one_face one h =
      not_itself h.1.0
      (some_is h.1.0 (not h.1.0)
      (sym h.1.1 ∙ ap (λ (f : ℕ). above pairs signs f u) one ∙ h.1.2))

  pub no_first_pair : IsPairList shape pairs → ¬ Contains pairs (lesser_first crease.a u)
      → BreaksTacoTortillaAt shape pairs crease u signs → ⊥
  no_first_pair list none h = none (pair_there shape pairs list crease.a u h.0.first_pair)

  pub no_second_pair : IsPairList shape pairs → ¬ Contains pairs (lesser_first crease.b u)
      → BreaksTacoTortillaAt shape pairs crease u signs → ⊥
  no_second_pair list none h = none (pair_there shape pairs list crease.b u h.0.second_pair)

-- a segment that enters the region of a face
pub enters_at : (shape : FoldedView) (crease : CreaseImage) (u : ℕ) (region : Region)
    → ((p : Position) → IsInRegion p region ↔ IsInside shape u p)
    → HasPointBetween region crease.image ↔ RunsInto shape crease u
enters_at shape crease u region same =
    (λ x. (x.0, x.1, (same x.0).0 x.2), λ x. (x.0, x.1, (same x.0).1 x.2))

-- ---- all creases and faces

pair_in_range : (shape : FoldedView) (f g : ℕ) → ArePair shape f g → (1 ≤ g) × (g ≤ length shape.faces)
pair_in_range shape f g (inl is) = (omega (arith, is.ascending), is.last)
pair_in_range shape f g (inr is) = (is.first, omega (arith, is.ascending, is.last))

module _ (shape : FoldedView) (pairs : List FacePair) where
  abbrev pub OfCrease : CreaseImage → List Sign → Type 0
  OfCrease crease signs =
      ForSomeBelow (λ n. BreaksTacoTortillaAt shape pairs crease (n + 1)) (length shape.faces) signs

  face_below : (crease : CreaseImage) (u : ℕ) (signs : List Sign) → BreaksTacoTortillaAt shape pairs crease u signs
      → OfCrease crease signs
  face_below crease u signs h =
      let range = pair_in_range shape crease.a u h.0.first_pair in
      let same : u ≡ (u - 1) + 1 = omega (arith, range.0) in (
        u - 1,
        omega (arith, range.0, range.1),
        subst (λ (f : ℕ). BreaksTacoTortillaAt shape pairs crease f signs) same h,
      )

  pub all_of_them : (signs : List Sign)
      → ((crease : CreaseImage) × Contains shape.creases crease × OfCrease crease signs)
      ↔ BreaksTacoTortilla shape pairs signs
  all_of_them signs = (
    λ h. (h.0, h.2.0 + 1, h.1, h.2.2),
    λ h. (h.0, h.2, face_below h.0 h.1 signs h.3),
  )

  pub tortillas_made : (count most end : ℕ) (rules : List Rule) → length shape.creases ≤ end
      → MakesRules count most (ForSomeBelow (AtPlace count shape.creases OfCrease) end) [] rules → (signs : List Sign)
      → IsTrue (list_any (is_broken signs) rules) ↔ BreaksTacoTortilla shape pairs signs
  tortillas_made count most end rules all made signs =
      let nothing = from_nothing count most (ForSomeBelow (AtPlace count shape.creases OfCrease) end) rules made signs in
      let places = at_all_places count shape.creases OfCrease end all signs in
      let whole = all_of_them signs in
      (λ any. whole.0 (places.0 (nothing.0 any)), λ breaks. nothing.1 (places.1 (whole.1 breaks)))
