-- Each step of the walk keeps to consistent lists that begin with the prefix.
use Rattle.std.proofs.Common.{◌≡◌, ◌<◌, ◌≤◌, Bool, true, false, not, cond, List, [], ◌∷◌, ◌++◌, length, refl, ap, arith, nat_le}
use Rattle.std.specs.List.{list_any}
use Rattle.std.proofs.lemmas.Bool.{and_parts, leb-true}
use Rattle.sign_rules.specs.declared.sign.Sign.{Sign}
use Rattle.sign_rules.specs.declared.sign.Sign.TheVariants.{Over, Under}
use Rattle.sign_rules.specs.Rules.{RulesView, is_broken, is_consistent}
use Rattle.sign_rules.specs.ConsistencyLaws.{consistent-front}
use Rattle.search_cursor.specs.declared.position.Position.{Position}
use Rattle.search_cursor.specs.Place.{SearchPlace, search_place}
use Rattle.search_cursor.specs.PlaceLaws.{begins_with-longer, begins_with-shorter}
use Rattle.order_search.specs.Search.{right_after}
use Rattle.order_search.specs.Invariant.{IsConsistentWithin}
use Rattle.order_search.specs.Walking.{before, descended, climbed}

pub consistent-length : (r : RulesView) (s : List Sign) → is_consistent r s ≡ true → length s ≤ r.pairs
consistent-length r s holds =
    let parts = and_parts (nat_le (length s) r.pairs) (not (list_any (is_broken s) r.rules)) holds in
    leb-true (length s) r.pairs parts.0

pub place_at : (p : Position) (past : Bool) → p.past ≡ past
    → search_place p ≡ record { signs = p.signs.list; past = past }
place_at p past e =
    let at : Bool → SearchPlace = λ x. record { signs = p.signs.list; past = x } in
    ap at e

-- a list that is not empty has a last sign
pub last_of : (s : List Sign) → 0 < length s → (front : List Sign) × (sign : Sign) × (s ≡ front ++ sign ∷ [])
last_of [] some = absurd (omega arith)
last_of (sign ∷ []) some = ([], sign, refl)
last_of (first ∷ second ∷ s) some =
    let l = last_of (second ∷ s) (omega arith) in (first ∷ l.0, l.1, ap (λ t. first ∷ t) l.2)

longer : (r : RulesView) (prefix s : List Sign) (sign : Sign) → IsConsistentWithin r prefix s
    → is_consistent r (s ++ sign ∷ []) ≡ true
    → IsConsistentWithin r prefix (s ++ sign ∷ [])
longer r prefix s sign within consistent = record {
  begins = begins_with-longer prefix s (sign ∷ []) within.begins;
  consistent = consistent;
}

pub within_descended : (r : RulesView) (prefix s : List Sign) → IsConsistentWithin r prefix s
    → IsConsistentWithin r prefix (descended r s).signs
within_descended r prefix s within = first (is_consistent r (s ++ Over ∷ [])) refl
  where
    second : (u : Bool) → is_consistent r (s ++ Under ∷ []) ≡ u
        → IsConsistentWithin r prefix (cond u (before (s ++ Under ∷ [])) (right_after s)).signs
    second true fits = longer r prefix s Under within fits
    second false no_under = within

    first : (o : Bool) → is_consistent r (s ++ Over ∷ []) ≡ o
        → IsConsistentWithin r prefix (cond o (before (s ++ Over ∷ []))
        (cond (is_consistent r (s ++ Under ∷ [])) (before (s ++ Under ∷ [])) (right_after s))).signs
    first true fits = longer r prefix s Over within fits
    first false no_over = second (is_consistent r (s ++ Under ∷ [])) refl

shorter : (r : RulesView) (prefix front : List Sign) (sign : Sign) → IsConsistentWithin r prefix (front ++ sign ∷ [])
    → length prefix ≤ length front
    → IsConsistentWithin r prefix front
shorter r prefix front sign within below = record {
  begins = begins_with-shorter prefix front (sign ∷ []) within.begins below;
  consistent = consistent-front r front (sign ∷ []) within.consistent;
}

pub within_climbed : (r : RulesView) (prefix front : List Sign) (sign : Sign)
    → IsConsistentWithin r prefix (front ++ sign ∷ [])
    → length prefix ≤ length front → IsConsistentWithin r prefix (climbed r front sign).signs
within_climbed r prefix front Under within below = shorter r prefix front Under within below
within_climbed r prefix front Over within below = turn (is_consistent r (front ++ Under ∷ [])) refl
  where
    turn : (u : Bool) → is_consistent r (front ++ Under ∷ []) ≡ u
        → IsConsistentWithin r prefix (cond u (before (front ++ Under ∷ [])) (right_after front)).signs
    turn true fits = longer r prefix front Under (shorter r prefix front Over within below) fits
    turn false no_under = shorter r prefix front Over within below
