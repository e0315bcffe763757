-- The rule of two creases that lie on one another.
use Rattle.std.proofs.Common.{◌≡◌, ℕ, ◌%◌, ◌<◌, inl, inr, Bool, true, false, not, List, [], ◌∷◌, length, Some, refl, sym, ap, ap₂, ◌∙◌, arith}
use Rattle.std.specs.Prelude.{◌&&◌, ◌||◌, ◌==◌, nat_lt, count_by}
use Rattle.std.specs.Bool.{IsTrue}
use Rattle.std.specs.List.{Contains, slice_get}
use Rattle.std.proofs.lemmas.Bool.{and_parts, and_from, lt-ltb, ltb-true, eqb-true, ne_eqb}
use Rattle.isometry_map.specs.declared.folded.CreaseImage.{CreaseImage}
use Rattle.isometry_map.specs.Folded.{FoldedView}
use Rattle.sign_rules.specs.declared.sign.Sign.{Sign}
use Rattle.sign_rules.specs.declared.rule.Rule.{Rule}
use Rattle.sign_rules.specs.declared.rule.Rule.TheVariants.{Even}
use Rattle.sign_rules.specs.Signs.{over_at}
use Rattle.sign_rules.specs.Rule.{is_same, is_rule_on, is_met}
use Rattle.sign_rules.specs.Rules.{is_decided, is_broken}
use Rattle.plane_geometry.specs.Stretch.{ShareTwoPoints}
use Rattle.plane_geometry.specs.SegmentView.{stretch_of}
use Rattle.layer_rules.specs.declared.face_pairs.FacePair.{FacePair}
use Rattle.layer_rules.specs.FacePairs.{IsPairList, ArePair}
use Rattle.layer_rules.specs.FacePlaces.{lesser_first}
use Rattle.layer_rules.specs.RuleMeaning.{IsRuleFor}
use Rattle.layer_rules.specs.TacoTaco.{LieOnOneSide, Pinches, BreaksTacoTacoAt}
use Rattle.layer_rules.specs.TacoTurns.{is_turned_oddly}
use Rattle.layer_rules.proofs.SignPlaces.{get_below, get_contains}
use Rattle.layer_rules.proofs.PlacedSigns.{there_pair, above_decided, above_read}
use Rattle.layer_rules.proofs.TortillaRules.{same_shuffled, one_pair_of, other_place}

-- ---- an odd number of four

-- an even number of four
abbrev even_of : Bool → Bool → Bool → Bool → Bool
even_of a b c d = is_same (is_same a b) (is_same c d)

abbrev odd_count : Bool → Bool → Bool → Bool → Bool
odd_count a b c d = count_by (λ answer. answer) (a ∷ b ∷ c ∷ d ∷ []) % 2 == 1

odd_is : (a b c d : Bool) → odd_count a b c d ≡ not (even_of a b c d)
odd_is true true true true = refl
odd_is true true true false = refl
odd_is true true false true = refl
odd_is true true false false = refl
odd_is true false true true = refl
odd_is true false true false = refl
odd_is true false false true = refl
odd_is true false false false = refl
odd_is false true true true = refl
odd_is false true true false = refl
odd_is false true false true = refl
odd_is false true false false = refl
odd_is false false true true = refl
odd_is false false true false = refl
odd_is false false false true = refl
odd_is false false false false = refl

not_same_not : (x y : Bool) → is_same (not x) (not y) ≡ is_same y x
not_same_not true true = refl
not_same_not true false = refl
not_same_not false true = refl
not_same_not false false = refl

-- four tests turned one by one
turned : (a b c d x y z w : Bool) → even_of (is_same a x) (is_same b y) (is_same c z) (is_same d w)
    ≡ is_same (even_of a b c d) (even_of x y z w)
turned a b c d x y z w =
    ap₂ is_same (same_shuffled a b x y) (same_shuffled c d z w)
    ∙ same_shuffled (is_same x y) (is_same z w) (is_same a b) (is_same c d)

-- ---- places

different : (shape : FoldedView) (f g : ℕ) → ArePair shape f g → f ≡ g → ⊥
different shape f g (inl is) e = omega (arith, is.ascending, e)
different shape f g (inr is) e = omega (arith, is.ascending, e)

apart : (pairs : List FacePair) (f g h k p q : ℕ) → slice_get pairs p ≡ Some (lesser_first f g)
    → slice_get pairs q ≡ Some (lesser_first h k) → (f ≡ h → g ≡ k → ⊥) → (f ≡ k → g ≡ h → ⊥) → p ≡ q → ⊥
apart pairs f g h k p q e e' straight across same =
    elim (one_pair_of f g h k (other_place pairs f g h k p q e e' same)) [
      | inl both ↦ straight both.0 both.1
      | inr both ↦ across both.0 both.1
    ]

rule_of_four : (n p q r s : ℕ) (odd : Bool) → p < n → q < n → r < n → s < n → (p ≡ q → ⊥) → (p ≡ r → ⊥)
    → (p ≡ s → ⊥) → (q ≡ r → ⊥) → (q ≡ s → ⊥) → (r ≡ s → ⊥) → IsTrue (is_rule_on n (Even p q r s odd))
rule_of_four n p q r s odd below_p below_q below_r below_s pq pr ps qr qs rs =
    let a = lt-ltb p n below_p in
    let b = lt-ltb q n below_q in
    let c = lt-ltb r n below_r in
    let d = lt-ltb s n below_s in
    let e = ne_eqb p q pq in
    let f = ne_eqb p r pr in
    let g = ne_eqb p s ps in
    let h = ne_eqb q r qr in
    let j = ne_eqb q s qs in
    let k = ne_eqb r s rs in
    λ i. (a i && (b i && (c i && (d i && true))))
    && (not (e i || (f i || (g i || false))) && (not (h i || (j i || false)) && (not (k i || false) && (not false && true))))

-- ---- the rule

module _ (shape : FoldedView) (pairs : List FacePair) (list : IsPairList shape pairs) (c d : CreaseImage) (p q r s : ℕ)
    (at_aa : slice_get pairs p ≡ Some (lesser_first c.a d.a))
    (at_ba : slice_get pairs q ≡ Some (lesser_first c.b d.a))
    (at_ab : slice_get pairs r ≡ Some (lesser_first c.a d.b))
    (at_bb : slice_get pairs s ≡ Some (lesser_first c.b d.b)) where
  abbrev rule : Rule
  rule = Even p q r s (is_turned_oddly c d)

  on_pairs : ArePair shape c.a c.b → ArePair shape d.a d.b → ArePair shape c.a d.a → ArePair shape c.b d.a
      → ArePair shape c.a d.b → IsTrue (is_rule_on (length pairs) rule)
  on_pairs first second aa ba ab =
      let below_p = get_below pairs p (lesser_first c.a d.a) at_aa in
      let below_q = get_below pairs q (lesser_first c.b d.a) at_ba in
      let below_r = get_below pairs r (lesser_first c.a d.b) at_ab in
      let below_s = get_below pairs s (lesser_first c.b d.b) at_bb in
      let pq = apart pairs c.a d.a c.b d.a p q at_aa at_ba (λ e f. different shape c.a c.b first e)
      (λ e f. different shape c.a d.a aa e) in
      let pr = apart pairs c.a d.a c.a d.b p r at_aa at_ab (λ e f. different shape d.a d.b second f)
      (λ e f. different shape c.a d.b ab e) in
      let ps = apart pairs c.a d.a c.b d.b p s at_aa at_bb (λ e f. different shape c.a c.b first e)
      (λ e f. different shape c.a d.b ab e) in
      let qr = apart pairs c.b d.a c.a d.b q r at_ba at_ab (λ e f. different shape d.a d.b second f)
      (λ e f. different shape c.a d.a aa (sym f)) in
      let qs = apart pairs c.b d.a c.b d.b q s at_ba at_bb (λ e f. different shape d.a d.b second f)
      (λ e f. different shape c.b d.a ba (sym f)) in
      let rs = apart pairs c.a d.b c.b d.b r s at_ab at_bb (λ e f. different shape c.a c.b first e)
      (λ e f. different shape c.a d.b ab e) in
      rule_of_four (length pairs) p q r s (is_turned_oddly c d) below_p below_q below_r below_s pq pr ps qr qs rs

  -- how many of the faces of one are above those of the other
  pinched : (signs : List Sign) → is_met signs rule
      ≡ even_of (is_same (nat_lt c.a d.a) (over_at signs p)) (is_same (nat_lt c.b d.a) (over_at signs q))
      (is_same (nat_lt c.a d.b) (over_at signs r)) (is_same (nat_lt c.b d.b) (over_at signs s))
  pinched signs =
      let o1 = over_at signs p in
      let o2 = over_at signs q in
      let o3 = over_at signs r in
      let o4 = over_at signs s in
      let l1 = nat_lt c.a d.a in
      let l2 = nat_lt c.b d.a in
      let l3 = nat_lt c.a d.b in
      let l4 = nat_lt c.b d.b in
      ap (λ (t : Bool). is_same t (is_turned_oddly c d)) (odd_is o1 o2 o3 o4)
      ∙ not_same_not (even_of o1 o2 o3 o4) (even_of l1 l2 l3 l4)
      ∙ sym (turned l1 l2 l3 l4 o1 o2 o3 o4)

  broken_pinches : (signs : List Sign) → IsTrue (is_broken signs rule) → Pinches pairs signs c d
  broken_pinches signs h =
      let n = length signs in
      let parts = and_parts (is_decided n rule) (not (is_met signs rule)) h in
      let below_p = and_parts (nat_lt p n) (nat_lt q n && (nat_lt r n && (nat_lt s n && true))) parts.0 in
      let below_q = and_parts (nat_lt q n) (nat_lt r n && (nat_lt s n && true)) below_p.1 in
      let below_r = and_parts (nat_lt r n) (nat_lt s n && true) below_q.1 in
      let below_s = and_parts (nat_lt s n) true below_r.1 in
      let aa = is_same (nat_lt c.a d.a) (over_at signs p) in
      let ba = is_same (nat_lt c.b d.a) (over_at signs q) in
      let ab = is_same (nat_lt c.a d.b) (over_at signs r) in
      let bb = is_same (nat_lt c.b d.b) (over_at signs s) in
      let odd : odd_count aa ba ab bb ≡ true =
      odd_is aa ba ab bb ∙ ap not (sym (pinched signs)) ∙ parts.1 in (
        aa,
        ba,
        ab,
        bb,
        above_read pairs list.ascending signs c.a d.a p at_aa (ltb-true p n below_p.0),
        above_read pairs list.ascending signs c.b d.a q at_ba (ltb-true q n below_q.0),
        above_read pairs list.ascending signs c.a d.b r at_ab (ltb-true r n below_r.0),
        above_read pairs list.ascending signs c.b d.b s at_bb (ltb-true s n below_s.0),
        eqb-true (count_by (λ answer. answer) (aa ∷ ba ∷ ab ∷ bb ∷ []) % 2) 1 odd,
      )

  pinches_broken : (signs : List Sign) → Pinches pairs signs c d → IsTrue (is_broken signs rule)
  pinches_broken signs h =
      let n = length signs in
      let aa = above_decided pairs list.ascending signs c.a d.a p at_aa h.0 h.4 in
      let ba = above_decided pairs list.ascending signs c.b d.a q at_ba h.1 h.5 in
      let ab = above_decided pairs list.ascending signs c.a d.b r at_ab h.2 h.6 in
      let bb = above_decided pairs list.ascending signs c.b d.b s at_bb h.3 h.7 in
      let odd : odd_count h.0 h.1 h.2 h.3 ≡ true = ap (λ (m : ℕ). m == 1) h.8 in
      and_from (is_decided n rule) (not (is_met signs rule))
      (and_from (nat_lt p n) (nat_lt q n && (nat_lt r n && (nat_lt s n && true))) (lt-ltb p n aa.0)
      (and_from (nat_lt q n) (nat_lt r n && (nat_lt s n && true)) (lt-ltb q n ba.0)
      (and_from (nat_lt r n) (nat_lt s n && true) (lt-ltb r n ab.0)
      (and_from (nat_lt s n) true (lt-ltb s n bb.0) refl))))
      (ap not (pinched signs ∙ (λ i. even_of (aa.1 i) (ba.1 i) (ab.1 i) (bb.1 i)))
      ∙ sym (odd_is h.0 h.1 h.2 h.3) ∙ odd)

  pub rule_for : c.a < d.a → ShareTwoPoints (stretch_of c.image) (stretch_of d.image)
      → LieOnOneSide shape (stretch_of c.image) c d → Contains pairs (lesser_first c.a c.b)
      → Contains pairs (lesser_first d.a d.b) → IsRuleFor (length pairs) (BreaksTacoTacoAt shape pairs c d) rule
  rule_for ascending common side first second =
      let ca_cb = there_pair shape pairs list c.a c.b first in
      let da_db = there_pair shape pairs list d.a d.b second in
      let aa = there_pair shape pairs list c.a d.a (get_contains pairs p (lesser_first c.a d.a) at_aa) in
      let ba = there_pair shape pairs list c.b d.a (get_contains pairs q (lesser_first c.b d.a) at_ba) in
      let ab = there_pair shape pairs list c.a d.b (get_contains pairs r (lesser_first c.a d.b) at_ab) in
      let bb = there_pair shape pairs list c.b d.b (get_contains pairs s (lesser_first c.b d.b) at_bb) in
      record {
        on_pairs = on_pairs ca_cb da_db aa ba ab;
        meaning = λ signs. (
          λ broken. (
            record {
              ascending = ascending;
              common = common;
              one_side = side;
              first_pair = ca_cb;
              second_pair = da_db;
              pair_aa = aa;
              pair_ba = ba;
              pair_ab = ab;
              pair_bb = bb;
            },
            broken_pinches signs broken,
          ),
          λ breaks. pinches_broken signs breaks.1,
        );
      }
