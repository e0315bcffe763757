-- The four cases in which a place stands before another.
use Rattle.std.proofs.Common.{◌≡◌, Bool, true, false, not, List, [], ◌∷◌, ◌++◌, refl, sym, ap, ◌↔◌}
use Rattle.std.proofs.lemmas.Bool.{true≢false, not-true, and_parts}
use Rattle.sign_rules.specs.declared.sign.Sign.{Sign}
use Rattle.sign_rules.specs.declared.sign.Sign.TheVariants.{Over, Under}
use Rattle.search_cursor.specs.Place.{SearchPlace, stands_before, is_earlier}
use Rattle.search_cursor.specs.Cases.{IsBefore, same, front, back, over}

at : List Sign → Bool → SearchPlace
at s x = record { signs = s; past = x }

longer : (sign : Sign) (s r : List Sign) (x y : Bool) → IsBefore (at s x) (at r y)
    → IsBefore (at (sign ∷ s) x) (at (sign ∷ r) y)
unfolding at
longer sign s r x y (same e f g) = same (ap (λ l. sign ∷ l) e) f g
longer sign s r x y (front next rest e f) = front next rest (ap (λ l. sign ∷ l) e) f
longer sign s r x y (back next rest e f) = back next rest (ap (λ l. sign ∷ l) e) f
longer sign s r x y (over common rest others e f) =
    over (sign ∷ common) rest others (ap (λ l. sign ∷ l) e) (ap (λ l. sign ∷ l) f)

cases_of : (s r : List Sign) (x y : Bool) → stands_before s x r y ≡ true → IsBefore (at s x) (at r y)
unfolding at
cases_of [] [] x y h = let parts = and_parts (not x) y h in same refl (not-true x parts.0) parts.1
cases_of [] (sign ∷ rest) x y h = front sign rest refl (not-true x h)
cases_of (sign ∷ rest) [] x y h = back sign rest refl h
cases_of (Over ∷ s) (Over ∷ r) x y h = longer Over s r x y (cases_of s r x y h)
cases_of (Under ∷ s) (Under ∷ r) x y h = longer Under s r x y (cases_of s r x y h)
cases_of (Over ∷ s) (Under ∷ r) x y h = over [] s r refl refl
cases_of (Under ∷ s) (Over ∷ r) x y h = absurd (true≢false (sym h))

-- a common front says nothing of the order
stands_before-append : (common s r : List Sign) (x y : Bool)
    → stands_before (common ++ s) x (common ++ r) y ≡ stands_before s x r y
stands_before-append [] s r x y = refl
stands_before-append (Over ∷ common) s r x y = stands_before-append common s r x y
stands_before-append (Under ∷ common) s r x y = stands_before-append common s r x y

before_front : (s : List Sign) (sign : Sign) (rest : List Sign) (y : Bool)
    → stands_before s false (s ++ sign ∷ rest) y ≡ true
before_front [] sign rest y = refl
before_front (Over ∷ s) sign rest y = before_front s sign rest y
before_front (Under ∷ s) sign rest y = before_front s sign rest y

after_front : (s : List Sign) (sign : Sign) (rest : List Sign) (x : Bool)
    → stands_before (s ++ sign ∷ rest) x s true ≡ true
after_front [] sign rest x = refl
after_front (Over ∷ s) sign rest x = after_front s sign rest x
after_front (Under ∷ s) sign rest x = after_front s sign rest x

across : (s : List Sign) → stands_before s false s true ≡ true
across [] = refl
across (Over ∷ s) = across s
across (Under ∷ s) = across s

before_of : (p q : SearchPlace) → IsBefore p q → is_earlier p q ≡ true
before_of p q (same e f g) = simp (e, f, g) (across q.signs)
before_of p q (front sign rest e f) = simp (e, f) (before_front p.signs sign rest q.past)
before_of p q (back sign rest e f) = simp (e, f) (after_front q.signs sign rest p.past)
before_of p q (over common rest others e f) =
    simp (e, f) (stands_before-append common (Over ∷ rest) (Under ∷ others) p.past q.past)

pub four_cases : (p q : SearchPlace) → (is_earlier p q ≡ true) ↔ IsBefore p q
unfolding at
four_cases p q = (cases_of p.signs q.signs p.past q.past, before_of p q)
