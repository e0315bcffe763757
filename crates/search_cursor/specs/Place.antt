-- Where a search stands: before all sign lists that begin with the signs, or after all of them; and the order of sign
-- lists and of such places.
use Rattle.std.specs.Prelude.{Bool, true, false, not, ◌&&◌, List, [], ◌∷◌}
use Rattle.sign_rules.specs.declared.sign.Sign.{Sign}
use Rattle.sign_rules.specs.declared.sign.Sign.TheVariants.{Over, Under}
use Rattle.search_cursor.specs.declared.position.Position.{Position}

-- `past` false: right before the signs and all that begins with them; `past` true: right after all of it
pub record SearchPlace : Type 0 where
  pub signs : List Sign
  pub past : Bool

abbrev pub search_place : Position → SearchPlace
search_place p = record { signs = p.signs.list; past = p.past }

-- whether (s, x) stands before (r, y): at the first difference Over stands before Under
abbrev pub stands_before : List Sign → Bool → List Sign → Bool → Bool
stands_before [] x [] y = not x && y
stands_before [] x (_ ∷ _) y = not x
stands_before (_ ∷ _) x [] y = y
stands_before (Over ∷ s) x (Over ∷ r) y = stands_before s x r y
stands_before (Under ∷ s) x (Under ∷ r) y = stands_before s x r y
stands_before (Over ∷ _) x (Under ∷ _) y = true
stands_before (Under ∷ _) x (Over ∷ _) y = false

abbrev pub is_earlier : SearchPlace → SearchPlace → Bool
is_earlier p q = stands_before p.signs p.past q.signs q.past

-- whether a sign list stands before a place: where the place right before that list does
abbrev pub is_passed : List Sign → List Sign → Bool → Bool
is_passed list s past = stands_before list false s past

-- whether the first list stands before the second: it is a proper front, or has Over at the first difference
abbrev pub list_before : List Sign → List Sign → Bool
list_before [] [] = false
list_before [] (_ ∷ _) = true
list_before (_ ∷ _) [] = false
list_before (Over ∷ s) (Over ∷ r) = list_before s r
list_before (Under ∷ s) (Under ∷ r) = list_before s r
list_before (Over ∷ _) (Under ∷ _) = true
list_before (Under ∷ _) (Over ∷ _) = false

-- whether a list begins with this front
abbrev pub begins_with : List Sign → List Sign → Bool
begins_with [] _ = true
begins_with (_ ∷ _) [] = false
begins_with (Over ∷ front) (Over ∷ s) = begins_with front s
begins_with (Under ∷ front) (Under ∷ s) = begins_with front s
begins_with (Over ∷ _) (Under ∷ _) = false
begins_with (Under ∷ _) (Over ∷ _) = false
