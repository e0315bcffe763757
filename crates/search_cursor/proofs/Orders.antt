-- The order of places is strict and total, and agrees with the order of lists.
use Rattle.std.proofs.Common.{◌≡◌, ◌⊎◌, Bool, true, false, ◌||◌, List, [], ◌∷◌, refl, sym, ◌∙◌, ap, inl, inr}
use Rattle.std.proofs.lemmas.Bool.{true≢false, and_from}
use Rattle.sign_rules.specs.declared.sign.Sign.{Sign}
use Rattle.sign_rules.specs.declared.sign.Sign.TheVariants.{Over, Under}
use Rattle.search_cursor.specs.Place.{SearchPlace, stands_before, is_passed, list_before, begins_with}

pub transitive : (s r t : List Sign) (x y z : Bool) → stands_before s x r y ≡ true
    → stands_before r y t z ≡ true → stands_before s x t z ≡ true
transitive [] [] t true y z h k = absurd (true≢false (sym h))
transitive [] [] t false false z h k = absurd (true≢false (sym h))
transitive [] [] [] false true z h k = absurd (true≢false (sym k))
transitive [] [] (_ ∷ _) false true z h k = absurd (true≢false (sym k))
transitive [] (_ ∷ _) [] x y z h k = and_from _ _ h k
transitive [] (_ ∷ _) (_ ∷ _) x y z h k = h
transitive (_ ∷ _) [] t x false z h k = absurd (true≢false (sym h))
transitive (_ ∷ _) [] [] x true z h k = absurd (true≢false (sym k))
transitive (_ ∷ _) [] (_ ∷ _) x true z h k = absurd (true≢false (sym k))
transitive (_ ∷ _) (_ ∷ _) [] x y z h k = k
transitive (Over ∷ s) (Over ∷ r) (Over ∷ t) x y z h k = transitive s r t x y z h k
transitive (Over ∷ s) (_ ∷ r) (Under ∷ t) x y z h k = refl
transitive (Over ∷ s) (Under ∷ r) (Over ∷ t) x y z h k = absurd (true≢false (sym k))
transitive (Under ∷ s) (Over ∷ r) t x y z h k = absurd (true≢false (sym h))
transitive (Under ∷ s) (Under ∷ r) (Over ∷ t) x y z h k = absurd (true≢false (sym k))
transitive (Under ∷ s) (Under ∷ r) (Under ∷ t) x y z h k = transitive s r t x y z h k

behind : (sign : Sign) (s r : List Sign) (x y : Bool)
    → (stands_before s x r y ≡ true) ⊎ (((s ≡ r) × (x ≡ y)) ⊎ (stands_before r y s x ≡ true))
    → (stands_before s x r y ≡ true) ⊎ (((sign ∷ s ≡ sign ∷ r) × (x ≡ y)) ⊎ (stands_before r y s x ≡ true))
behind sign s r x y (inl h) = inl h
behind sign s r x y (inr (inl e)) = inr (inl (ap (λ l. sign ∷ l) e.0, e.1))
behind sign s r x y (inr (inr h)) = inr (inr h)

pub total : (s r : List Sign) (x y : Bool)
    → (stands_before s x r y ≡ true) ⊎ (((s ≡ r) × (x ≡ y)) ⊎ (stands_before r y s x ≡ true))
total [] [] true true = inr (inl (refl, refl))
total [] [] true false = inr (inr refl)
total [] [] false true = inl refl
total [] [] false false = inr (inl (refl, refl))
total [] (_ ∷ _) true y = inr (inr refl)
total [] (_ ∷ _) false y = inl refl
total (_ ∷ _) [] x true = inl refl
total (_ ∷ _) [] x false = inr (inr refl)
total (Over ∷ s) (Over ∷ r) x y = behind Over s r x y (total s r x y)
total (Under ∷ s) (Under ∷ r) x y = behind Under s r x y (total s r x y)
total (Over ∷ s) (Under ∷ r) x y = inl refl
total (Under ∷ s) (Over ∷ r) x y = inr (inr refl)

pub same_place : (p q : SearchPlace) → p.signs ≡ q.signs → p.past ≡ q.past → p ≡ q
same_place p q e f =
    let at : List Sign → Bool → SearchPlace = λ s x. record { signs = s; past = x } in
    ap (λ s. at s p.past) e ∙ ap (λ x. at q.signs x) f

pub passed_before : (list s : List Sign) → is_passed list s false ≡ list_before list s
passed_before [] [] = refl
passed_before [] (_ ∷ _) = refl
passed_before (_ ∷ _) [] = refl
passed_before (Over ∷ list) (Over ∷ s) = passed_before list s
passed_before (Under ∷ list) (Under ∷ s) = passed_before list s
passed_before (Over ∷ list) (Under ∷ s) = refl
passed_before (Under ∷ list) (Over ∷ s) = refl

pub passed_after : (list s : List Sign) → is_passed list s true ≡ (list_before list s || begins_with s list)
passed_after [] [] = refl
passed_after [] (_ ∷ _) = refl
passed_after (_ ∷ _) [] = refl
passed_after (Over ∷ list) (Over ∷ s) = passed_after list s
passed_after (Under ∷ list) (Under ∷ s) = passed_after list s
passed_after (Over ∷ list) (Under ∷ s) = refl
passed_after (Under ∷ list) (Over ∷ s) = refl
