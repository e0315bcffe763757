-- The order of places by its four cases.
use Rattle.std.specs.Prelude.{◌≡◌, true, false, List, ◌∷◌, ◌++◌}
use Rattle.sign_rules.specs.declared.sign.Sign.{Sign}
use Rattle.sign_rules.specs.declared.sign.Sign.TheVariants.{Over, Under}
use Rattle.search_cursor.specs.Place.{SearchPlace}

pub data IsBefore (p q : SearchPlace) : Type 0 where
  -- the same signs, before and after what begins with them
  same : p.signs ≡ q.signs → p.past ≡ false → q.past ≡ true → IsBefore p q
  -- the first signs are a proper front of the others, and the first place is before what begins with them
  front : (sign : Sign) (rest : List Sign) → q.signs ≡ p.signs ++ sign ∷ rest → p.past ≡ false → IsBefore p q
  -- the other signs are a proper front of the first, and the other place is after what begins with them
  back : (sign : Sign) (rest : List Sign) → p.signs ≡ q.signs ++ sign ∷ rest → q.past ≡ true → IsBefore p q
  -- the first have Over at the first difference
  over : (common rest others : List Sign) → p.signs ≡ common ++ Over ∷ rest
      → q.signs ≡ common ++ Under ∷ others → IsBefore p q
