-- Equal rules, by the derived test.
use Rattle.std.proofs.Common.{◌≡◌, Bool, true, false, List, [], ◌∷◌, refl, sym, subst, ◌∙◌}
use Rattle.std.proofs.Math.Bool.{beq}
use Rattle.std.proofs.lemmas.Bool.{and_parts, and_from, eqb-true, eq-eqb, true≢false}
use lib.Pointwise.{pointwise}
use Rattle.sign_rules.specs.declared.sign.Sign.{Sign}
use Rattle.sign_rules.specs.declared.sign.Sign.TheVariants.{Over, Under}
use Rattle.sign_rules.specs.declared.rule.Rule.{Rule}
use Rattle.sign_rules.specs.declared.rule.Rule.TheVariants.{Fixed, Equal, Even, NotCyclic}
use Rattle.sign_rules.specs.contracts.rule.RulePartialEq.TheImpl as rule
use Rattle.sign_rules.specs.contracts.sign.SignPartialEq.TheImpl as sign

pub sign_is : (a b : Sign) → sign.eq-value.it a b ≡ true → a ≡ b
sign_is Over Over e = refl
sign_is Over Under e = absurd (true≢false (sym e))
sign_is Under Over e = absurd (true≢false (sym e))
sign_is Under Under e = refl

pub sign_same : (a : Sign) → sign.eq-value.it a a ≡ true
sign_same Over = refl
sign_same Under = refl

bool_is : (a b : Bool) → beq a b ≡ true → a ≡ b
bool_is true true e = refl
bool_is true false e = absurd (true≢false (sym e))
bool_is false true e = absurd (true≢false (sym e))
bool_is false false e = refl

bool_same : (a : Bool) → beq a a ≡ true
bool_same true = refl
bool_same false = refl

pub rule_is : (a b : Rule) → rule.eq-value.it a b ≡ true → a ≡ b
rule_is (Fixed p s) (Fixed q t) e =
    let h = and_parts _ _ e in
    let i = eqb-true p q h.0 in let j = sign_is s t h.1 in (cc)
rule_is (Equal p q x) (Equal r s y) e =
    let h = and_parts _ _ e in let k = and_parts _ _ h.1 in
    let i = eqb-true p r h.0 in let j = eqb-true q s k.0 in let l = bool_is x y k.1 in (cc)
rule_is (Even p q r s x) (Even t u v w y) e =
    let h = and_parts _ _ e in let k = and_parts _ _ h.1 in let m = and_parts _ _ k.1
    in let n = and_parts _ _ m.1 in
    let a = eqb-true p t h.0 in let b = eqb-true q u k.0 in let c = eqb-true r v m.0
    in let d = eqb-true s w n.0 in
    let l = bool_is x y n.1 in (cc)
rule_is (NotCyclic p q r) (NotCyclic t u v) e =
    let h = and_parts _ _ e in let k = and_parts _ _ h.1 in
    let a = eqb-true p t h.0 in let b = eqb-true q u k.0 in let c = eqb-true r v k.1 in (cc)
rule_is a b e = absurd (true≢false (sym e))

pub rule_same : (a : Rule) → rule.eq-value.it a a ≡ true
rule_same (Fixed p s) = and_from _ _ (eq-eqb p p refl) (sign_same s)
rule_same (Equal p q x) = and_from _ _ (eq-eqb p p refl) (and_from _ _ (eq-eqb q q refl) (bool_same x))
rule_same (Even p q r s x) =
    and_from _ _ (eq-eqb p p refl)
    (and_from _ _ (eq-eqb q q refl)
    (and_from _ _ (eq-eqb r r refl) (and_from _ _ (eq-eqb s s refl) (bool_same x))))
rule_same (NotCyclic p q r) =
    and_from _ _ (eq-eqb p p refl) (and_from _ _ (eq-eqb q q refl) (eq-eqb r r refl))

-- lists whose elements a test finds equal, one by one, are equal
pub lists_are : {X : Type 0} (E : X → X → Bool) → ((a b : X) → E a b ≡ true → a ≡ b) → (xs ys : List X)
    → pointwise E xs ys ≡ true → xs ≡ ys
lists_are E is [] [] e = refl
lists_are E is [] (y ∷ ys) e = absurd (true≢false (sym e))
lists_are E is (x ∷ xs) [] e = absurd (true≢false (sym e))
lists_are E is (x ∷ xs) (y ∷ ys) e =
    let h = and_parts _ _ e in
    let i = is x y h.0 in
    let j = lists_are E is xs ys h.1 in
    (cc)

pub lists_same : {X : Type 0} (E : X → X → Bool) → ((a : X) → E a a ≡ true) → (xs : List X)
    → pointwise E xs xs ≡ true
lists_same E same [] = refl
lists_same E same (x ∷ xs) = and_from _ _ (same x) (lists_same E same xs)

-- what the test of two slices tells of the lists that they show
pub told_same : {X : Type 0} (E : X → X → Bool) → ((a b : X) → E a b ≡ true → a ≡ b)
    → ((a : X) → E a a ≡ true)
    → (told : Bool) (xs ys first second : List X) → told ≡ pointwise E xs ys → xs ≡ first → ys ≡ second
    → (told ≡ true → first ≡ second) × (first ≡ second → told ≡ true)
told_same E is same told xs ys first second e f g = (
  λ h. sym f ∙ lists_are E is xs ys (sym e ∙ h) ∙ g,
  λ h. e ∙ subst (λ zs. pointwise E xs zs ≡ true) (f ∙ h ∙ sym g) (lists_same E same xs),
)
