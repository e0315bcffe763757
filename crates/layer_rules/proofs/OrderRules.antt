-- Rules of all four conditions, one list behind another.
use Rattle.std.proofs.Common.{◌≡◌, ℕ, ◌*◌, ◌<◌, ◌≤◌, Bool, true, false, not, List, ◌++◌, length, refl, sym, ap, subst, ◌∙◌, arith}
use Rattle.std.specs.Prelude.{◌↔◌, ◌||◌, nat_le}
use Rattle.std.specs.Bool.{IsTrue}
use Rattle.std.specs.List.{list_any}
use Rattle.std.proofs.lemmas.Bool.{and_parts, and_from, true≢false, false≢true, le-leb, leb-true, not-true}
use Rattle.std.proofs.Math.Nat.{mul-le-mul_left, mul-le-mul_right}
use Rattle.std.proofs.lemmas.List.{length-append}
use Rattle.std.proofs.lemmas.List.Folds.{list_any-append, list_all-append}
use Rattle.crease_model.specs.Rules.{most_pieces}
use Rattle.crease_model.specs.declared.Kind.{Kind}
use Rattle.isometry_map.specs.Folded.{FoldedView}
use Rattle.sign_rules.specs.declared.sign.Sign.{Sign}
use Rattle.sign_rules.specs.declared.rule.Rule.{Rule}
use Rattle.sign_rules.specs.Rule.{is_rule_on}
use Rattle.sign_rules.specs.Rules.{RulesView, are_rules_on, is_broken, is_consistent}
use Rattle.layer_rules.specs.declared.face_pairs.FacePair.{FacePair}
use Rattle.layer_rules.specs.CreaseCondition.{BreaksCreaseCondition}
use Rattle.layer_rules.specs.FacePairs.{most_pairs, most_folded_faces}
use Rattle.layer_rules.specs.Layering.{most_rules}
use Rattle.layer_rules.specs.TacoTortilla.{BreaksTacoTortilla}
use Rattle.layer_rules.specs.TacoTaco.{BreaksTacoTaco}
use Rattle.layer_rules.specs.Transitivity.{BreaksTransitivity}
use Rattle.layer_rules.specs.LayerOrder.{IsConsistent}

pub false_when : (b : Bool) → (b ≡ true → ⊥) → b ≡ false
false_when true never = absurd (never refl)
false_when false never = refl

neither : (x y : Bool) → (x || y) ≡ false → (x ≡ false) × (y ≡ false)
neither true y e = absurd (true≢false e)
neither false y e = (refl, e)

none_of : (x y : Bool) → x ≡ false → y ≡ false → (x || y) ≡ false
none_of true y e f = absurd (true≢false e)
none_of false y e f = f

module _ (signs : List Sign) where
  abbrev broken : List Rule → Bool
  broken rules = list_any (is_broken signs) rules

  -- no rule is broken where the condition isn't
  met : (rules : List Rule) (Breaks : Type 0) → IsTrue (broken rules) ↔ Breaks → ¬ Breaks → broken rules ≡ false
  met rules Breaks means never = false_when (broken rules) (λ any. never (means.0 any))

  meets : (rules : List Rule) (Breaks : Type 0) → IsTrue (broken rules) ↔ Breaks → broken rules ≡ false → ¬ Breaks
  meets rules Breaks means e = λ breaks. false≢true (sym e ∙ means.1 breaks)

  joined : (a b c d : List Rule) → broken (((a ++ b) ++ c) ++ d) ≡ (((broken a || broken b) || broken c) || broken d)
  joined a b c d =
      list_any-append (is_broken signs) ((a ++ b) ++ c) d
      ∙ ap (λ (t : Bool). t || broken d)
      (list_any-append (is_broken signs) (a ++ b) c
      ∙ ap (λ (t : Bool). t || broken c) (list_any-append (is_broken signs) a b))

module _ (shape : FoldedView) (kinds : List Kind) (pairs : List FacePair) (a b c d : List Rule)
    (creases : (signs : List Sign) → IsTrue (list_any (is_broken signs) a) ↔ BreaksCreaseCondition shape kinds pairs signs)
    (tortillas : (signs : List Sign) → IsTrue (list_any (is_broken signs) b) ↔ BreaksTacoTortilla shape pairs signs)
    (tacos : (signs : List Sign) → IsTrue (list_any (is_broken signs) c) ↔ BreaksTacoTaco shape pairs signs)
    (triples : (signs : List Sign) → IsTrue (list_any (is_broken signs) d) ↔ BreaksTransitivity shape pairs signs) where
  abbrev view : RulesView
  view = record { pairs = length pairs; rules = ((a ++ b) ++ c) ++ d }

  rules_meet : (signs : List Sign) → IsTrue (is_consistent view signs) → IsConsistent shape kinds pairs signs
  rules_meet signs h =
      let parts = and_parts (nat_le (length signs) (length pairs)) (not (broken signs (((a ++ b) ++ c) ++ d))) h in
      let none = sym (joined signs a b c d) ∙ not-true (broken signs (((a ++ b) ++ c) ++ d)) parts.1 in
      let last = neither ((broken signs a || broken signs b) || broken signs c) (broken signs d) none in
      let third = neither (broken signs a || broken signs b) (broken signs c) last.0 in
      let both = neither (broken signs a) (broken signs b) third.0 in
      record {
        within = leb-true (length signs) (length pairs) parts.0;
        creases = meets signs a (BreaksCreaseCondition shape kinds pairs signs) (creases signs) both.0;
        tortillas = meets signs b (BreaksTacoTortilla shape pairs signs) (tortillas signs) both.1;
        tacos = meets signs c (BreaksTacoTaco shape pairs signs) (tacos signs) third.1;
        triples = meets signs d (BreaksTransitivity shape pairs signs) (triples signs) last.1;
      }

  meet_rules : (signs : List Sign) → IsConsistent shape kinds pairs signs → IsTrue (is_consistent view signs)
  meet_rules signs h =
      and_from (nat_le (length signs) (length pairs)) (not (broken signs (((a ++ b) ++ c) ++ d)))
      (le-leb (length signs) (length pairs) h.within)
      (ap not
      (joined signs a b c d
      ∙ none_of ((broken signs a || broken signs b) || broken signs c) (broken signs d)
      (none_of (broken signs a || broken signs b) (broken signs c)
      (none_of (broken signs a) (broken signs b)
      (met signs a (BreaksCreaseCondition shape kinds pairs signs) (creases signs) h.creases)
      (met signs b (BreaksTacoTortilla shape pairs signs) (tortillas signs) h.tortillas))
      (met signs c (BreaksTacoTaco shape pairs signs) (tacos signs) h.tacos))
      (met signs d (BreaksTransitivity shape pairs signs) (triples signs) h.triples)))

  pub consistent_is : (rules : List Rule) → rules ≡ ((a ++ b) ++ c) ++ d → (signs : List Sign)
      → IsTrue (is_consistent (record { pairs = length pairs; rules = rules }) signs)
      ↔ IsConsistent shape kinds pairs signs
  consistent_is rules e signs = (
    λ holds.
        rules_meet signs
        (subst (λ (l : List Rule). IsTrue (is_consistent (record { pairs = length pairs; rules = l }) signs)) e holds),
    λ is.
        subst (λ (l : List Rule). IsTrue (is_consistent (record { pairs = length pairs; rules = l }) signs)) (sym e)
        (meet_rules signs is),
  )

pub all_on : (n : ℕ) (a b c d rules : List Rule) → IsTrue (are_rules_on n a) → IsTrue (are_rules_on n b)
    → IsTrue (are_rules_on n c) → IsTrue (are_rules_on n d) → rules ≡ ((a ++ b) ++ c) ++ d
    → IsTrue (are_rules_on n rules)
all_on n a b c d rules on_a on_b on_c on_d e =
    ap (are_rules_on n) e ∙ list_all-append (is_rule_on n) ((a ++ b) ++ c) d
    ∙ and_from _ _
    (list_all-append (is_rule_on n) (a ++ b) c
    ∙ and_from _ _ (list_all-append (is_rule_on n) a b ∙ and_from _ _ on_a on_b) on_c)
    on_d

-- ---- how many rules there are at most

product_few : (m n a b : ℕ) → m ≤ a → n ≤ b → m * n ≤ a * b
product_few m n a b h k = omega (arith, mul-le-mul_right n h, mul-le-mul_left a k)

pub all_few : (shape : FoldedView) (pairs : List FacePair) (a b c d rules : List Rule)
    → rules ≡ ((a ++ b) ++ c) ++ d → length shape.faces ≤ most_folded_faces → length shape.creases ≤ most_pieces
    → length pairs ≤ most_pairs → length a ≤ 2 * length pairs
    → length b ≤ length shape.creases * length shape.faces
    → length c ≤ length shape.creases * length shape.creases → length d ≤ length pairs * length pairs
    → length rules < most_rules
all_few shape pairs a b c d rules same faces creases few in_a in_b in_c in_d =
    let n = length pairs in
    let m = length shape.creases in
    omega (
      arith,
      ap (λ (l : List Rule). length l) same,
      length-append ((a ++ b) ++ c) d,
      length-append (a ++ b) c,
      length-append a b,
      few,
      in_a,
      in_b,
      in_c,
      in_d,
      product_few m (length shape.faces) 2000 65536 creases faces,
      product_few m m 2000 2000 creases creases,
      product_few n n 8192 8192 few few,
    )
