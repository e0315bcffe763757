-- The image of a convex polygon is a convex polygon, whose corners run the other way where orientation is reversed.
use Rattle.std.proofs.Common.{◌≡◌, ◌∙◌, ℕ, zero, suc, ◌+◌, ◌-◌, ◌*◌, ◌%◌, ◌<◌, Bool, true, false, cond, ◌&&◌, ◌⊎◌, inl, inr, List, [], ◌∷◌, ◌++◌, map, reverse, Some, refl, sym, ap, ap₂, subst, arith, append_assoc}
use Rattle.std.specs.Prelude.{unwrap_or, is_some, nat_eq}
use Rattle.std.specs.List.{list_all, sum}
use Rattle.std.proofs.lemmas.Bool.{and_parts, false≢true, cases_lt}
use Rattle.std.proofs.lemmas.List.{reverse-append, map-append}
use Rattle.std.proofs.Math.Nat.{add_comm}
use Rattle.std.proofs.lemmas.List.Folds.{list_all-append}
use Rattle.std.proofs.lemmas.List.Sums.{sum_by-cons, sum_by-append}
use Rattle.surd_number.specs.NumberLaws.{difference_of-same}
use Rattle.plane_geometry.specs.declared.Point.{Point}
use Rattle.plane_geometry.specs.Position.{Position, position_of, vector_of}
use Rattle.plane_geometry.specs.Direction.{direction_vector, is_along, is_zero, is_positive, direction_of, opposite_number}
use Rattle.plane_geometry.specs.Multiple.{IsSameVector}
use Rattle.plane_geometry.specs.DirectionLaws.{along_unique, along_back, direction_found, direction_none}
use Rattle.plane_geometry.specs.Polygon.{Side, sides_from, sides_of, side_number, turn_of, turns_from, turns_of, directions_of, has_direction, have_directions, whole_turn, is_convex_turn, is_convex}
use Rattle.isometry_map.specs.Linear.{is_reflection, direction_image}
use Rattle.isometry_map.specs.Motion.{Motion, image_by}
use Rattle.isometry_map.specs.MotionLaws.{directions_go_to_directions, cross_same, dot_same}
use Rattle.isometry_map.specs.Folded.{IsImage, AreImages, counterclockwise}

-- ---- directions that are there

-- some number below n passes, or none does
passes_below : (test : ℕ → Bool) (n : ℕ)
    → ((k : ℕ) × (k < n) × (test k ≡ true)) ⊎ ((k : ℕ) → k < n → test k ≡ false)
passes_below test zero = inr (λ k few. absurd (omega arith))
passes_below test (suc n) = here (test n) refl (passes_below test n)
  where
    here : (b : Bool) → test n ≡ b
        → ((k : ℕ) × (k < n) × (test k ≡ true)) ⊎ ((k : ℕ) → k < n → test k ≡ false)
        → ((k : ℕ) × (k < suc n) × (test k ≡ true)) ⊎ ((k : ℕ) → k < suc n → test k ≡ false)
    here true e below = inl (n, omega arith, e)
    here false e (inl w) = inl (w.0, omega (arith, w.1), w.2)
    here false e (inr none) =
        inr (λ k few. elim (cases_lt k n) [
          | inl less ↦ none k less
          | inr more ↦ (let at : k ≡ n = omega arith in ap test at ∙ e)
        ])

not_along : (m k : ℕ) (p q : Position) → m < 16 → k < m → is_along m p q ≡ true → (b : Bool)
    → is_along k p q ≡ b → b ≡ false
not_along m k p q few less here true e =
    (let at : k ≡ m = along_unique k m p q (omega arith) few e here in absurd (omega arith))
not_along m k p q few less here false e = refl

-- a direction in which it goes is the direction
pub direction_is : (m : ℕ) (p q : Position) → m < 16 → is_along m p q ≡ true → direction_of p q ≡ Some m
direction_is m p q few here =
    direction_found m p q few here (λ k less. not_along m k p q few less here (is_along k p q) refl)

-- it goes in direction m, and that is the direction
pub record Goes (m : ℕ) (p q : Position) : Type 0 where
  pub few : m < 16
  pub along : is_along m p q ≡ true

pub goes_there : (p q : Position) → is_some (direction_of p q) ≡ true → (m : ℕ) × Goes m p q
goes_there p q e =
    elim (passes_below (λ k. is_along k p q) 16) [
      | inl w ↦ (w.0, record { few = w.1; along = w.2 })
      | inr none ↦ absurd (false≢true (sym (ap is_some (direction_none p q none)) ∙ e))
    ]

-- ---- neighbours in a list

-- of each element and the next
abbrev pub chain : {A B : Type 0} → (A → A → B) → List A → List B
chain f [] = []
chain f (x ∷ []) = []
chain f (x ∷ y ∷ ys) = f x y ∷ chain f (y ∷ ys)

-- and of the last with the first
abbrev pub closed : {A B : Type 0} → (A → A → B) → List A → List B
closed f [] = []
closed f (x ∷ xs) = chain f (x ∷ xs ++ x ∷ [])

-- the first one last
abbrev pub rotated : {A : Type 0} → List A → List A
rotated [] = []
rotated (x ∷ xs) = xs ++ x ∷ []

abbrev pub side_at : Point → Point → Side
side_at p q = record { start = p; end = q }

sides_chain : (first p : Point) (ps : List Point)
    → sides_from first (p ∷ ps) ≡ chain side_at (p ∷ ps ++ first ∷ [])
sides_chain first p [] = refl
sides_chain first p (q ∷ qs) = ap (λ rest. side_at p q ∷ rest) (sides_chain first q qs)

pub sides_closed : (ps : List Point) → sides_of ps ≡ closed side_at ps
sides_closed [] = refl
sides_closed (p ∷ ps) = sides_chain p p ps

turns_chain : (first m : ℕ) (ns : List ℕ) → turns_from first (m ∷ ns) ≡ chain turn_of (m ∷ ns ++ first ∷ [])
turns_chain first m [] = refl
turns_chain first m (n ∷ ns) = ap (λ rest. turn_of m n ∷ rest) (turns_chain first n ns)

turns_closed : (ns : List ℕ) → turns_of ns ≡ closed turn_of ns
turns_closed [] = refl
turns_closed (n ∷ ns) = turns_chain n n ns

map_chain : {A B C : Type 0} (g : B → C) (f : A → A → B) (xs : List A)
    → map g (chain f xs) ≡ chain (λ x y. g (f x y)) xs
map_chain g f [] = refl
map_chain g f (x ∷ []) = refl
map_chain g f (x ∷ y ∷ ys) = ap (λ rest. g (f x y) ∷ rest) (map_chain g f (y ∷ ys))

map_closed : {A B C : Type 0} (g : B → C) (f : A → A → B) (xs : List A)
    → map g (closed f xs) ≡ closed (λ x y. g (f x y)) xs
map_closed g f [] = refl
map_closed g f (x ∷ xs) = map_chain g f (x ∷ xs ++ x ∷ [])

chain_map : {A B C : Type 0} (f : B → B → C) (g : A → B) (xs : List A)
    → chain f (map g xs) ≡ chain (λ x y. f (g x) (g y)) xs
chain_map f g [] = refl
chain_map f g (x ∷ []) = refl
chain_map f g (x ∷ y ∷ ys) = ap (λ rest. f (g x) (g y) ∷ rest) (chain_map f g (y ∷ ys))

closed_map : {A B C : Type 0} (f : B → B → C) (g : A → B) (xs : List A)
    → closed f (map g xs) ≡ closed (λ x y. f (g x) (g y)) xs
closed_map f g [] = refl
closed_map f g (x ∷ xs) =
    ap (λ rest. chain f (g x ∷ rest)) (sym (map-append g xs (x ∷ []))) ∙ chain_map f g (x ∷ xs ++ x ∷ [])

-- ---- backwards

chain_push : {A B : Type 0} (f : A → A → B) (xs : List A) (y z : A)
    → chain f (xs ++ y ∷ z ∷ []) ≡ chain f (xs ++ y ∷ []) ++ f y z ∷ []
chain_push f [] y z = refl
chain_push f (x ∷ []) y z = refl
chain_push f (x ∷ w ∷ xs) y z = ap (λ rest. f x w ∷ rest) (chain_push f (w ∷ xs) y z)

reverse_cons : {A : Type 0} (x : A) (xs : List A) → reverse (x ∷ xs) ≡ reverse xs ++ x ∷ []
reverse_cons x xs = reverse-append (x ∷ []) xs

chain_backwards : {A B : Type 0} (f : A → A → B) (xs : List A)
    → chain f (reverse xs) ≡ reverse (chain (λ x y. f y x) xs)
chain_backwards f [] = refl
chain_backwards f (x ∷ []) = refl
chain_backwards f (x ∷ y ∷ ys) =
    ap (chain f) (reverse_cons x (y ∷ ys) ∙ ap (λ rest. rest ++ x ∷ []) (reverse_cons y ys)
    ∙ append_assoc (reverse ys) (y ∷ []) (x ∷ []))
    ∙ chain_push f (reverse ys) y x
    ∙ ap (λ rest. rest ++ f y x ∷ []) (ap (chain f) (sym (reverse_cons y ys)) ∙ chain_backwards f (y ∷ ys))
    ∙ sym (reverse_cons (f y x) (chain (λ a b. f b a) (y ∷ ys)))

closed_rotated : {A B : Type 0} (f : A → A → B) (xs : List A) → closed f (rotated xs) ≡ rotated (closed f xs)
closed_rotated f [] = refl
closed_rotated f (x ∷ []) = refl
closed_rotated f (x ∷ y ∷ ys) =
    ap (λ rest. chain f (y ∷ rest)) (append_assoc ys (x ∷ []) (y ∷ [])) ∙ chain_push f (y ∷ ys) x y

pub closed_backwards : {A B : Type 0} (f : A → A → B) (xs : List A)
    → closed f (reverse xs) ≡ rotated (reverse (closed (λ x y. f y x) xs))
closed_backwards f [] = refl
closed_backwards f (x ∷ xs) =
    let back : x ∷ reverse xs
    ++ x ∷ [] ≡ reverse (x ∷ xs ++ x ∷ []) =
    ap (λ rest. x ∷ rest) (sym (reverse_cons x xs)) ∙ sym (reverse-append (x ∷ xs) (x ∷ [])) in
    ap (closed f) (reverse_cons x xs) ∙ closed_rotated f (x ∷ reverse xs)
    ∙ ap (λ rest. rotated (chain f rest)) back ∙ ap rotated (chain_backwards f (x ∷ xs ++ x ∷ []))

-- ---- what does not depend on the order

and_turned : (a b : Bool) → (a && b) ≡ (b && a)
and_turned true true = refl
and_turned true false = refl
and_turned false true = refl
and_turned false false = refl

pub all_parts : {A : Type 0} (test : A → Bool) (x : A) (xs : List A) → list_all test (x ∷ xs) ≡ true
    → (test x ≡ true) × (list_all test xs ≡ true)
all_parts test x xs e = and_parts (test x) (list_all test xs) e

all_from_parts : {A : Type 0} (test : A → Bool) (x : A) (xs : List A) → test x ≡ true
    → list_all test xs ≡ true → list_all test (x ∷ xs) ≡ true
all_from_parts test x xs e f = ap₂ ◌&&◌ e f

pub all_rotated : {A : Type 0} (test : A → Bool) (xs : List A) → list_all test (rotated xs) ≡ list_all test xs
all_rotated test [] = refl
all_rotated test (x ∷ xs) =
    list_all-append test xs (x ∷ []) ∙ and_turned (list_all test xs) (list_all test (x ∷ []))
    ∙ sym (list_all-append test (x ∷ []) xs)

pub all_backwards : {A : Type 0} (test : A → Bool) (xs : List A) → list_all test (reverse xs) ≡ list_all test xs
all_backwards test [] = refl
all_backwards test (x ∷ xs) =
    ap (list_all test) (reverse_cons x xs) ∙ list_all-append test (reverse xs) (x ∷ [])
    ∙ ap (λ b. b && list_all test (x ∷ [])) (all_backwards test xs)
    ∙ and_turned (list_all test xs) (list_all test (x ∷ [])) ∙ sym (list_all-append test (x ∷ []) xs)

sum_pushed : (xs : List ℕ) (x : ℕ) → sum (xs ++ x ∷ []) ≡ sum (x ∷ xs)
sum_pushed xs x = sum_by-append (λ n. n) xs (x ∷ []) ∙ add_comm (sum xs) (sum (x ∷ []))
    ∙ sym (sum_by-append (λ n. n) (x ∷ []) xs)

sum_rotated : (xs : List ℕ) → sum (rotated xs) ≡ sum xs
sum_rotated [] = refl
sum_rotated (x ∷ xs) = sum_pushed xs x

sum_backwards : (xs : List ℕ) → sum (reverse xs) ≡ sum xs
sum_backwards [] = refl
sum_backwards (x ∷ xs) =
    ap sum (reverse_cons x xs) ∙ sum_pushed (reverse xs) x ∙ sum_by-cons (λ n. n) x (reverse xs)
    ∙ ap (λ n. x + n) (sum_backwards xs) ∙ sym (sum_by-cons (λ n. n) x xs)

-- ---- numbers of directions

abbrev pub AreFew : List ℕ → Type 0
AreFew [] = Unit {0}
AreFew (n ∷ ns) = (n < 16) × AreFew ns

few_joined : (ms ns : List ℕ) → AreFew ms → AreFew ns → AreFew (ms ++ ns)
few_joined [] ns h k = k
few_joined (m ∷ ms) ns h k = (h.0, few_joined ms ns h.1 k)

chain_same : (f g : ℕ → ℕ → ℕ) → ((m n : ℕ) → m < 16 → n < 16 → f m n ≡ g m n) → (ns : List ℕ) → AreFew ns
    → chain f ns ≡ chain g ns
chain_same f g same [] few = refl
chain_same f g same (n ∷ []) few = refl
chain_same f g same (m ∷ n ∷ ns) few =
    ap₂ (λ x rest. x ∷ rest) (same m n few.0 few.1.0) (chain_same f g same (n ∷ ns) few.1)

closed_same : (f g : ℕ → ℕ → ℕ) → ((m n : ℕ) → m < 16 → n < 16 → f m n ≡ g m n) → (ns : List ℕ) → AreFew ns
    → closed f ns ≡ closed g ns
closed_same f g same [] few = refl
closed_same f g same (n ∷ ns) few =
    chain_same f g same (n ∷ ns ++ n ∷ []) (few_joined (n ∷ ns) (n ∷ []) few (few.0, tt))

-- the image of a direction, backwards
abbrev pub back_image : ℕ → ℕ → ℕ
back_image i n = opposite_number (direction_image i n)

kept_number : (i n : ℕ) → is_reflection i ≡ false → direction_image i n ≡ (2 * i + n) % 16
kept_number i n e = ap (λ b. cond b ((2 * i + 16 - n) % 16) ((2 * i + n) % 16)) e

turned_number : (i n : ℕ) → is_reflection i ≡ true → direction_image i n ≡ (2 * i + 16 - n) % 16
turned_number i n e = ap (λ b. cond b ((2 * i + 16 - n) % 16) ((2 * i + n) % 16)) e

turn_shifted : (i m n : ℕ) → m < 16 → n < 16 → turn_of ((2 * i + m) % 16) ((2 * i + n) % 16) ≡ turn_of m n
turn_shifted i m n few_m few_n = omega arith

turn_mirrored : (i m n : ℕ) → i < 16 → m < 16 → n < 16
    → turn_of (opposite_number ((2 * i + 16 - n) % 16)) (opposite_number ((2 * i + 16 - m) % 16))
    ≡ turn_of m n
turn_mirrored i m n few few_m few_n = omega arith

turn_kept : (i m n : ℕ) → i < 16 → is_reflection i ≡ false → m < 16 → n < 16
    → turn_of (direction_image i m) (direction_image i n) ≡ turn_of m n
turn_kept i m n few e few_m few_n =
    ap₂ turn_of (kept_number i m e) (kept_number i n e) ∙ turn_shifted i m n few_m few_n

turn_backwards : (i m n : ℕ) → i < 16 → is_reflection i ≡ true → m < 16 → n < 16
    → turn_of (back_image i n) (back_image i m) ≡ turn_of m n
turn_backwards i m n few e few_m few_n =
    ap₂ (λ a b. turn_of (opposite_number a) (opposite_number b)) (turned_number i n e) (turned_number i m e)
    ∙ turn_mirrored i m n few few_m few_n

-- ---- images of sides

pub along_same : (n : ℕ) (p q p' q' : Position) → IsSameVector p' p → IsSameVector q' q
    → is_along n p' q' ≡ is_along n p q
along_same n p q p' q' e f =
    let same : IsSameVector (vector_of p' q') (vector_of p q) =
    (difference_of-same q'.x p'.x q.x p.x f.0 e.0, difference_of-same q'.y p'.y q.y p.y f.1 e.1) in
    ap₂ (λ s r. is_zero s && is_positive r)
    (cross_same (direction_vector n) (vector_of p' q') (vector_of p q) same)
    (dot_same (direction_vector n) (vector_of p' q') (vector_of p q) same)

pub image_few : (i n : ℕ) → direction_image i n < 16
image_few i n = go (is_reflection i)
  where
    go : (b : Bool) → cond b ((2 * i + 16 - n) % 16) ((2 * i + n) % 16) < 16
    go true = omega arith
    go false = omega arith

module _ (t : Motion) (few : t.linear < 16) where
  pub goes_image : (m : ℕ) (p q p' q' : Point) → IsImage t p p' → IsImage t q q'
      → Goes m (position_of p) (position_of q)
      → Goes (direction_image t.linear m) (position_of p') (position_of q')
  goes_image m p q p' q' e f g = record {
    few = image_few t.linear m;
    along =
        along_same (direction_image t.linear m) (image_by t (position_of p)) (image_by t (position_of q))
        (position_of p') (position_of q') e f
        ∙ directions_go_to_directions t m (position_of p) (position_of q) few g.few ∙ g.along;
  }

  pub goes_back : (m : ℕ) (p q p' q' : Point) → IsImage t p p' → IsImage t q q'
      → Goes m (position_of p) (position_of q)
      → Goes (back_image t.linear m) (position_of q') (position_of p')
  goes_back m p q p' q' e f g =
      let there = goes_image m p q p' q' e f g in
      record {
        few = omega arith;
        along = along_back (direction_image t.linear m) (position_of p') (position_of q') there.few
            ∙ there.along;
      }

-- the number of a side that goes in direction m
abbrev pub number_at : Point → Point → ℕ
number_at p q = side_number (side_at p q)

pub number_is : (m : ℕ) (p q : Point) → Goes m (position_of p) (position_of q) → number_at p q ≡ m
number_is m p q g = ap (λ o. unwrap_or o 0) (direction_is m (position_of p) (position_of q) g.few g.along)

has_is : (m : ℕ) (p q : Point) → Goes m (position_of p) (position_of q) → has_direction (side_at p q) ≡ true
has_is m p q g = ap is_some (direction_is m (position_of p) (position_of q) g.few g.along)

-- what is known of the sides between the images of points that are neighbours
pub record SideImages (i : ℕ) (ps qs : List Point) : Type 0 where
  pub few : AreFew (chain number_at ps)
  pub forwards : chain number_at qs ≡ map (direction_image i) (chain number_at ps)
  pub forwards_there : list_all has_direction (chain side_at qs) ≡ true
  pub backwards : chain (λ p q. number_at q p) qs ≡ map (back_image i) (chain number_at ps)
  pub backwards_there : list_all has_direction (chain (λ p q. side_at q p) qs) ≡ true

module _ (t : Motion) (few : t.linear < 16) where
  side_images : (ps qs : List Point) → AreImages t ps qs → list_all has_direction (chain side_at ps) ≡ true
      → SideImages t.linear ps qs
  side_images [] [] images there =
      record { few = tt; forwards = refl; forwards_there = refl; backwards = refl; backwards_there = refl }
  side_images [] (q ∷ qs) images there = absurd images
  side_images (p ∷ ps) [] images there = absurd images
  side_images (p ∷ []) (q ∷ []) images there =
      record { few = tt; forwards = refl; forwards_there = refl; backwards = refl; backwards_there = refl }
  side_images (p ∷ []) (q ∷ q' ∷ qs) images there = absurd images.1
  side_images (p ∷ p' ∷ ps) (q ∷ []) images there = absurd images.1
  side_images (p ∷ p' ∷ ps) (q ∷ q' ∷ qs) images there =
      go (goes_there (position_of p) (position_of p') (parts).0)
      (side_images (p' ∷ ps) (q' ∷ qs) images.1 (parts).1)
    where
      parts : (has_direction (side_at p p') ≡ true)
          × (list_all has_direction (chain side_at (p' ∷ ps)) ≡ true)
      parts = all_parts has_direction (side_at p p') (chain side_at (p' ∷ ps)) there

      go : (m : ℕ) × Goes m (position_of p) (position_of p') → SideImages t.linear (p' ∷ ps) (q' ∷ qs)
          → SideImages t.linear (p ∷ p' ∷ ps) (q ∷ q' ∷ qs)
      go w rest =
          let m = w.0 in
          let here : number_at p p' ≡ m = number_is m p p' w.1 in
          let there = goes_image t few m p p' q q' images.0 images.1.0 w.1 in
          let back = goes_back t few m p p' q q' images.0 images.1.0 w.1 in
          record {
            few = (subst (λ (n : ℕ). n < 16) (sym here) w.1.few, rest.few);
            forwards = ap₂ (λ n ns. n ∷ ns)
                (number_is (direction_image t.linear m) q q' there
                ∙ ap (direction_image t.linear) (sym here)) rest.forwards;
            forwards_there = all_from_parts has_direction (side_at q q') (chain side_at (q' ∷ qs))
                (has_is (direction_image t.linear m) q q' there) rest.forwards_there;
            backwards = ap₂ (λ n ns. n ∷ ns)
                (number_is (back_image t.linear m) q' q back
                ∙ ap (back_image t.linear) (sym here)) rest.backwards;
            backwards_there = all_from_parts has_direction (side_at q' q)
                (chain (λ p q. side_at q p) (q' ∷ qs))
                (has_is (back_image t.linear m) q' q back) rest.backwards_there;
          }

-- ---- polygons

pub images_joined : (t : Motion) (ps qs ps' qs' : List Point) → AreImages t ps qs → AreImages t ps' qs'
    → AreImages t (ps ++ ps') (qs ++ qs')
images_joined t [] [] ps' qs' h k = k
images_joined t [] (q ∷ qs) ps' qs' h k = absurd h
images_joined t (p ∷ ps) [] ps' qs' h k = absurd h
images_joined t (p ∷ ps) (q ∷ qs) ps' qs' h k = (h.0, images_joined t ps qs ps' qs' h.1 k)

-- the same of all sides
pub record PolygonImages (i : ℕ) (ps qs : List Point) : Type 0 where
  pub few : AreFew (closed number_at ps)
  pub forwards : closed number_at qs ≡ map (direction_image i) (closed number_at ps)
  pub forwards_there : list_all has_direction (closed side_at qs) ≡ true
  pub backwards : closed (λ p q. number_at q p) qs ≡ map (back_image i) (closed number_at ps)
  pub backwards_there : list_all has_direction (closed (λ p q. side_at q p) qs) ≡ true

polygon_images : (t : Motion) → t.linear < 16 → (ps qs : List Point) → AreImages t ps qs
    → list_all has_direction (closed side_at ps) ≡ true → PolygonImages t.linear ps qs
polygon_images t few [] [] images there =
    record { few = tt; forwards = refl; forwards_there = refl; backwards = refl; backwards_there = refl }
polygon_images t few [] (q ∷ qs) images there = absurd images
polygon_images t few (p ∷ ps) [] images there = absurd images
polygon_images t few (p ∷ ps) (q ∷ qs) images there =
    let h = side_images t few (p ∷ ps ++ p ∷ []) (q ∷ qs ++ q ∷ [])
    (images_joined t (p ∷ ps) (q ∷ qs) (p ∷ []) (q ∷ []) images (images.0, tt)) there in
    record {
      few = h.few;
      forwards = h.forwards;
      forwards_there = h.forwards_there;
      backwards = h.backwards;
      backwards_there = h.backwards_there;
    }

directions_closed : (ps : List Point) → directions_of ps ≡ closed number_at ps
directions_closed ps = ap (map side_number) (sides_closed ps) ∙ map_closed side_number side_at ps

turns_of-directions : (ps : List Point) → turns_of (directions_of ps) ≡ closed turn_of (closed number_at ps)
turns_of-directions ps = turns_closed (directions_of ps) ∙ ap (closed turn_of) (directions_closed ps)

-- what makes a polygon convex, of its turns
pub record IsConvexBy (turns : List ℕ) : Type 0 where
  pub left : list_all is_convex_turn turns ≡ true
  pub whole : nat_eq (sum turns) 16 ≡ true

convex_parts : (ps : List Point) → is_convex ps ≡ true
    → (list_all has_direction (closed side_at ps) ≡ true) × IsConvexBy (closed turn_of (closed number_at ps))
unfolding is_convex
convex_parts ps e =
    let turns = turns_of (directions_of ps) in
    let h = and_parts (have_directions ps) (list_all is_convex_turn turns && nat_eq (whole_turn ps) 16) e in
    let k = and_parts (list_all is_convex_turn turns) (nat_eq (whole_turn ps) 16) h.1 in
    let same = turns_of-directions ps in (
      sym (ap (list_all has_direction) (sides_closed ps)) ∙ h.0,
      record {
        left = sym (ap (list_all is_convex_turn) same) ∙ k.0;
        whole = sym (ap (λ ns. nat_eq (sum ns) 16) same) ∙ k.1;
      },
    )

convex_from_parts : (ps : List Point) → list_all has_direction (closed side_at ps) ≡ true
    → IsConvexBy (closed turn_of (closed number_at ps)) → is_convex ps ≡ true
unfolding is_convex
convex_from_parts ps there h =
    let same = turns_of-directions ps in
    ap₂ ◌&&◌ (ap (list_all has_direction) (sides_closed ps) ∙ there)
    (ap₂ ◌&&◌ (ap (list_all is_convex_turn) same ∙ h.left) (ap (λ ns. nat_eq (sum ns) 16) same ∙ h.whole))

convex_same : (ms ns : List ℕ) → ms ≡ ns → IsConvexBy ns → IsConvexBy ms
convex_same ms ns e h = subst IsConvexBy (sym e) h

convex_turned_round : (ns : List ℕ) → IsConvexBy ns → IsConvexBy (rotated (rotated (reverse ns)))
convex_turned_round ns h = record {
  left = all_rotated is_convex_turn (rotated (reverse ns)) ∙ all_rotated is_convex_turn (reverse ns)
      ∙ all_backwards is_convex_turn ns ∙ h.left;
  whole = ap (λ n. nat_eq n 16)
      (sum_rotated (rotated (reverse ns)) ∙ sum_rotated (reverse ns) ∙ sum_backwards ns) ∙ h.whole;
}

module _ (t : Motion) (few : t.linear < 16) (ps qs : List Point) (images : AreImages t ps qs)
    (convex : is_convex ps ≡ true) where
  kept_convex : is_reflection t.linear ≡ false → is_convex qs ≡ true
  kept_convex e =
      let h = convex_parts ps convex in
      let k = polygon_images t few ps qs images h.0 in
      let d = closed number_at ps in
      let turns : closed turn_of (closed number_at qs) ≡ closed turn_of d =
      ap (closed turn_of) k.forwards ∙ closed_map turn_of (direction_image t.linear) d
      ∙ closed_same (λ m n. turn_of (direction_image t.linear m) (direction_image t.linear n)) turn_of
      (λ m n. turn_kept t.linear m n few e) d k.few in
      convex_from_parts qs k.forwards_there
      (convex_same (closed turn_of (closed number_at qs)) (closed turn_of d) turns h.1)

  turned_convex : is_reflection t.linear ≡ true → is_convex (reverse qs) ≡ true
  turned_convex e =
      let h = convex_parts ps convex in
      let k = polygon_images t few ps qs images h.0 in
      let d = closed number_at ps in
      let b = map (back_image t.linear) d in
      let numbers : closed number_at (reverse qs) ≡ rotated (reverse b) = closed_backwards number_at qs
      ∙ ap (λ ns. rotated (reverse ns)) k.backwards in
      let round : closed turn_of (closed number_at (reverse qs))
      ≡ rotated (rotated (reverse (closed (λ m n. turn_of n m) b))) =
      ap (closed turn_of) numbers ∙ closed_rotated turn_of (reverse b)
      ∙ ap rotated (closed_backwards turn_of b) in
      let turns : closed (λ m n. turn_of n m) b ≡ closed turn_of d =
      closed_map (λ m n. turn_of n m) (back_image t.linear) d
      ∙ closed_same (λ m n. turn_of (back_image t.linear n) (back_image t.linear m)) turn_of
      (λ m n. turn_backwards t.linear m n few e) d k.few in
      let there : list_all has_direction (closed side_at (reverse qs)) ≡ true =
      ap (list_all has_direction) (closed_backwards side_at qs)
      ∙ all_rotated has_direction (reverse (closed (λ p q. side_at q p) qs))
      ∙ all_backwards has_direction (closed (λ p q. side_at q p) qs) ∙ k.backwards_there in
      convex_from_parts (reverse qs) there
      (convex_same (closed turn_of (closed number_at (reverse qs)))
      (rotated (rotated (reverse (closed turn_of d))))
      (round ∙ ap (λ ns. rotated (rotated (reverse ns))) turns)
      (convex_turned_round (closed turn_of d) h.1))

-- the images of the corners of a convex polygon, in the order that is counterclockwise, are those of one
pub images_are_convex : (t : Motion) → t.linear < 16 → (ps qs : List Point) → AreImages t ps qs
    → is_convex ps ≡ true → is_convex (counterclockwise (is_reflection t.linear) qs) ≡ true
images_are_convex t few ps qs images convex = go (is_reflection t.linear) refl
  where
    go : (b : Bool) → is_reflection t.linear ≡ b → is_convex (counterclockwise b qs) ≡ true
    go true e = turned_convex t few ps qs images convex e
    go false e = kept_convex t few ps qs images convex e
