-- Why the walk ends: how many steps it can take at most.
use Rattle.std.proofs.Common.{ℕ, zero, suc, ◌+◌, ◌*◌, ◌<◌, ◌≡◌, Bool, true, false, cond, List, [], ◌∷◌, ◌++◌, length, refl, arith, subst}
use Rattle.std.proofs.lemmas.List.{append-nil}
use Rattle.sign_rules.specs.declared.sign.Sign.{Sign}
use Rattle.sign_rules.specs.declared.sign.Sign.TheVariants.{Over, Under}
use Rattle.sign_rules.specs.Rules.{RulesView, is_consistent}
use Rattle.search_cursor.specs.Place.{SearchPlace}
use Rattle.order_search.specs.Search.{right_after}
use Rattle.order_search.specs.Walking.{before, descended, climbed}

-- the steps below a list that `free` signs still follow
pub weight : ℕ → ℕ
weight zero = 0
weight (suc free) = 2 * weight free + 3

weight-suc : (free : ℕ) → weight (suc free) ≡ 2 * weight free + 3
unfolding weight
weight-suc free = refl

-- the steps from a place on, where there are `pairs` pairs
pub steps_left : List Sign → Bool → ℕ → ℕ
steps_left [] true pairs = 0
steps_left [] false pairs = weight pairs
steps_left (_ ∷ s) x zero = 0
steps_left (Over ∷ s) x (suc pairs) = steps_left s x pairs + weight pairs + 2
steps_left (Under ∷ s) x (suc pairs) = steps_left s x pairs + 1

-- fewer behind a common front
fewer : (common s t : List Sign) (x y : Bool) (pairs : ℕ)
    → ((free : ℕ) → steps_left s x (suc free) < steps_left t y (suc free)) → length common < pairs
    → steps_left (common ++ s) x pairs < steps_left (common ++ t) y pairs
unfolding steps_left
fewer common s t x y zero less below = absurd (omega (arith, below))
fewer [] s t x y (suc pairs) less below = less pairs
fewer (Over ∷ common) s t x y (suc pairs) less below =
    omega (arith, fewer common s t x y pairs less (omega (arith, below)))
fewer (Under ∷ common) s t x y (suc pairs) less below =
    omega (arith, fewer common s t x y pairs less (omega (arith, below)))

abbrev pub place_steps : SearchPlace → ℕ → ℕ
place_steps place pairs = steps_left place.signs place.past pairs

at_over : (x : Bool) (free : ℕ) → steps_left (Over ∷ []) x (suc free) ≡ steps_left [] x free + weight free + 2
unfolding steps_left
at_over x free = refl

at_under : (x : Bool) (free : ℕ) → steps_left (Under ∷ []) x (suc free) ≡ steps_left [] x free + 1
unfolding steps_left
at_under x free = refl

at_end : (free : ℕ) → steps_left [] true free ≡ 0
unfolding steps_left
at_end free = refl

at_start : (free : ℕ) → steps_left [] false free ≡ weight free
unfolding steps_left
at_start free = refl

-- fewer from some signs to the same signs without them
fewer_up : (front s : List Sign) (x y : Bool) (pairs : ℕ)
    → ((free : ℕ) → steps_left [] x (suc free) < steps_left s y (suc free)) → length front < pairs
    → steps_left front x pairs < steps_left (front ++ s) y pairs
fewer_up front s x y pairs less below =
    subst (λ l. steps_left l x pairs < steps_left (front ++ s) y pairs) (append-nil front)
    (fewer front [] s x y pairs less below)

fewer_down : (front s : List Sign) (x y : Bool) (pairs : ℕ)
    → ((free : ℕ) → steps_left s x (suc free) < steps_left [] y (suc free)) → length front < pairs
    → steps_left (front ++ s) x pairs < steps_left front y pairs
fewer_down front s x y pairs less below =
    subst (λ l. steps_left (front ++ s) x pairs < steps_left l y pairs) (append-nil front)
    (fewer front s [] x y pairs less below)

pub fewer_descended : (r : RulesView) (s : List Sign) → length s < r.pairs
    → place_steps (descended r s) r.pairs < place_steps (before s) r.pairs
fewer_descended r s below = first (is_consistent r (s ++ Over ∷ []))
  where
    second : (u : Bool) → place_steps (cond u (before (s ++ Under ∷ [])) (right_after s)) r.pairs < place_steps
        (before s) r.pairs
    second true = fewer_down s (Under ∷ []) false false r.pairs
        (λ free. omega (arith, at_under false free, at_start free, at_start (suc free), weight-suc free))
        below
    second false =
        let base = fewer s [] [] true false r.pairs
        (λ free. omega (arith, at_end (suc free), at_start (suc free), weight-suc free)) below in
        subst (λ l. steps_left l true r.pairs < steps_left l false r.pairs) (append-nil s) base

    first : (o : Bool)
        → place_steps (cond o (before (s ++ Over ∷ []))
        (cond (is_consistent r (s ++ Under ∷ [])) (before (s ++ Under ∷ [])) (right_after s))) r.pairs
        < place_steps (before s) r.pairs
    first true = fewer_down s (Over ∷ []) false false r.pairs
        (λ free. omega (arith, at_over false free, at_start free, at_start (suc free), weight-suc free)) below
    first false = second (is_consistent r (s ++ Under ∷ []))

pub fewer_climbed : (r : RulesView) (front : List Sign) (sign : Sign) → length front < r.pairs
    → place_steps (climbed r front sign) r.pairs < place_steps (right_after (front ++ sign ∷ [])) r.pairs
fewer_climbed r front Under below = fewer_up front (Under ∷ []) true true r.pairs
    (λ free. omega (arith, at_end (suc free), at_under true free)) below
fewer_climbed r front Over below = turn (is_consistent r (front ++ Under ∷ []))
  where
    turn : (u : Bool) → place_steps
        (cond u (before (front ++ Under ∷ [])) (right_after front)) r.pairs < place_steps
        (right_after (front ++ Over ∷ [])) r.pairs
    turn true = fewer front (Under ∷ []) (Over ∷ []) false true r.pairs
        (λ free. omega (arith, at_under false free, at_start free, at_over true free, at_end free)) below
    turn false = fewer_up front (Over ∷ []) true true r.pairs
        (λ free. omega (arith, at_end (suc free), at_over true free)) below
