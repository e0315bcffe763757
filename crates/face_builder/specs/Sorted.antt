-- Lists in the order of a comparison.
use Rattle.std.specs.Prelude.{Bool, List, [], ◌∷◌, if◌then◌else◌}
use Rattle.std.specs.Ordering.{is_lt}
use Rattle.std.specs.declared.cmp.Ordering.{Ordering}

-- a list in order with one more
abbrev pub sorted_with : {X : Type 0} → (X → X → Ordering) → X → List X → List X
sorted_with compare x [] = x ∷ []
sorted_with compare x (y ∷ ys) = if is_lt (compare y x) then y ∷ sorted_with compare x ys else x ∷ y ∷ ys

unfoldable pub sorted_list : {X : Type 0} → (X → X → Ordering) → List X → List X
sorted_list compare [] = []
sorted_list compare (x ∷ xs) = sorted_with compare x (sorted_list compare xs)

-- without those that are the same as the one before, which for the first of the list is x
abbrev pub others_after : {X : Type 0} → (X → X → Bool) → X → List X → List X
others_after is_same x [] = []
others_after is_same x (y ∷ ys) =
    if is_same y x then others_after is_same x ys else y ∷ others_after is_same y ys

-- each element once, in a list where equal ones stand side by side
abbrev pub each_once : {X : Type 0} → (X → X → Bool) → List X → List X
each_once is_same [] = []
each_once is_same (x ∷ xs) = x ∷ others_after is_same x xs
