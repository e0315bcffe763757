-- The first place at which a test passes, and whether there is one.
use Rattle.std.proofs.Common.{◌≡◌, ℕ, ◌+◌, Bool, true, false, cond, ◌||◌, List, [], ◌∷◌, Some, refl, is_some}
use Rattle.std.specs.List.{position_from, list_any}

pub is_some-position_from : {X : Type 0} (p : X → Bool) (n : ℕ) (xs : List X)
    → is_some (position_from p n xs) ≡ list_any p xs
is_some-position_from p n [] = refl
is_some-position_from p n (x ∷ xs) = first (p x) (is_some-position_from p (n + 1) xs)
  where
    first : (b : Bool) → is_some (position_from p (n + 1) xs) ≡ list_any p xs
        → is_some (cond b (Some n) (position_from p (n + 1) xs)) ≡ (b || list_any p xs)
    first true e = refl
    first false e = e
