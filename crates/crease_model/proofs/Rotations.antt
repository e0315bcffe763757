-- A polygon that begins at another corner has the same sides, directions and turns, in turned order.
use Rattle.std.proofs.Common.{◌≡◌, ℕ, List, [], ◌∷◌, ◌++◌, map, refl, sym, ap, ◌∙◌}
use Rattle.std.proofs.lemmas.List.{append-nil, map-append}
use Rattle.plane_geometry.specs.Polygon.{Side, sides_from, sides_of, turn_of, turns_from, turns_of, side_number, directions_of}

-- what is the same of two parts in either order
abbrev pub IsTurnable : {A X : Type 0} → (List A → X) → Type 0
IsTurnable {A} h = (u v : List A) → h (u ++ v) ≡ h (v ++ u)

-- a list that F makes of each element with the next, and of the last one with a first one
module _ {A B : Type 0} (pair : A → A → B) (F : A → List A → List B) (none : (f : A) → F f [] ≡ [])
    (one : (f p : A) → F f (p ∷ []) ≡ pair p f ∷ [])
    (more : (f p q : A) (ps : List A) → F f (p ∷ q ∷ ps) ≡ pair p q ∷ F f (q ∷ ps)) where
  parts : (f y : A) (xs ys : List A) → F f (xs ++ (y ∷ ys)) ≡ F y xs ++ F f (y ∷ ys)
  parts f y [] ys = sym (ap (λ l. l ++ F f (y ∷ ys)) (none y))
  parts f y (x ∷ []) ys = more f x y ys ∙ sym (ap (λ l. l ++ F f (y ∷ ys)) (one y x))
  parts f y (x ∷ z ∷ zs) ys =
      more f x z (zs ++ (y ∷ ys)) ∙ ap (λ l. pair x z ∷ l) (parts f y (z ∷ zs) ys)
      ∙ sym (ap (λ l. l ++ F f (y ∷ ys)) (more y x z zs))

  turned_parts : {X : Type 0} (h : List B → X) → IsTurnable h → (x y : A) (xs ys : List A)
      → h (F x ((x ∷ xs) ++ (y ∷ ys))) ≡ h (F y ((y ∷ ys) ++ (x ∷ xs)))
  turned_parts h turn x y xs ys =
      ap h (parts x y (x ∷ xs) ys) ∙ turn (F y (x ∷ xs)) (F x (y ∷ ys)) ∙ sym (ap h (parts y x (y ∷ ys) xs))

pub turned_sides : {X : Type 0} (h : List Side → X) → IsTurnable h
    → IsTurnable (λ corners. h (sides_of corners))
turned_sides h turn [] v = ap (λ l. h (sides_of l)) (sym (append-nil v))
turned_sides h turn (x ∷ xs) [] = ap (λ l. h (sides_of l)) (append-nil (x ∷ xs))
turned_sides h turn (x ∷ xs) (y ∷ ys) =
    turned_parts (λ p q. record { start = p; end = q }) sides_from (λ _. refl) (λ _ _. refl)
    (λ _ _ _ _. refl) h turn x y xs ys

pub turned_turns : {X : Type 0} (h : List ℕ → X) → IsTurnable h
    → IsTurnable (λ directions. h (turns_of directions))
turned_turns h turn [] v = ap (λ l. h (turns_of l)) (sym (append-nil v))
turned_turns h turn (x ∷ xs) [] = ap (λ l. h (turns_of l)) (append-nil (x ∷ xs))
turned_turns h turn (x ∷ xs) (y ∷ ys) =
    turned_parts turn_of turns_from (λ _. refl) (λ _ _. refl) (λ _ _ _ _. refl) h turn x y xs ys

turned_map : {A B X : Type 0} (g : A → B) (h : List B → X) → IsTurnable h
    → IsTurnable (λ items. h (map g items))
turned_map g h turn u v = ap h (map-append g u v) ∙ turn (map g u) (map g v) ∙ sym (ap h (map-append g v u))

pub turned_directions : {X : Type 0} (h : List ℕ → X) → IsTurnable h
    → IsTurnable (λ corners. h (turns_of (directions_of corners)))
turned_directions h turn =
    turned_sides (λ sides. h (turns_of (map side_number sides)))
    (turned_map side_number (λ directions. h (turns_of directions)) (turned_turns h turn))
