-- The order of places is a strict total order that agrees with the order of sign lists.
use Rattle.std.specs.Prelude.{◌≡◌, ◌↔◌, ◌⊎◌, true, false, ◌||◌, List, IsTrue}
use Rattle.sign_rules.specs.declared.sign.Sign.{Sign}
use Rattle.search_cursor.specs.Place.{SearchPlace, is_earlier, is_passed, list_before, begins_with}
use Rattle.search_cursor.specs.Cases.{IsBefore}

-- a strict total order
pub record IsStrictTotalOrder : Type 0 where
  pub not_itself : (p : SearchPlace) → is_earlier p p ≡ false
  pub transitive : (p q r : SearchPlace) → IsTrue (is_earlier p q) → IsTrue (is_earlier q r) → IsTrue (is_earlier p r)
  pub total : (p q : SearchPlace) → IsTrue (is_earlier p q) ⊎ ((p ≡ q) ⊎ IsTrue (is_earlier q p))

-- what stands before a place, by the order of sign lists
pub record AgreesWithLists : Type 0 where
  pub before : (list s : List Sign) → is_passed list s false ≡ list_before list s
  pub after : (list s : List Sign) → is_passed list s true ≡ (list_before list s || begins_with s list)

-- the four cases in which a place stands before another
abbrev pub IsByCases : Type 0
IsByCases = (p q : SearchPlace) → IsTrue (is_earlier p q) ↔ IsBefore p q
