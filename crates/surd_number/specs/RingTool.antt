-- Equations in a commutative ring, proved by multiplying out. Two expressions are equal where the difference of the two
-- comes to nothing when it is multiplied out and like terms are collected, which the checker computes.
--
--     Expression R      v0 .. v11 (variables, by their place in a list), con c, e ⊕ f, e ⊗ f, ⊖ e, e ⊝ f (a difference), halved e
--     value o xs e      what the expression e stands for, over the list xs of variables and the operations o
--     solved l xs e f refl      value o xs e is value o xs f, for laws l of o
--     solved_from l xs h g c e f refl p      the same from p, that h is g, where e ⊝ f is c ⊗ (h ⊝ g); solved_from_two, solved_from_three: from more facts
--
-- Equality is any relation E that the operations keep (`IsRing`), so this serves ℤ with `≡` and the exact numbers with `IsSame`.
-- `IntRing` and `NumberLaws` say how to use it there.
use Rattle.std.proofs.Common.{◌≡◌, ℕ, zero, suc, Bool, true, false, List, [], ◌∷◌, eqb, leb, eqb-true, true≢false, refl, sym, ap₂, subst}

infixl 6 ◌⊕◌ ◌⊝◌
infixl 7 ◌⊗◌
infix 8 ⊖◌
pub data Expression (R : Type 0) : Type 0 where
  var : ℕ → Expression R
  con : R → Expression R
  ◌⊕◌ : Expression R → Expression R → Expression R
  ◌⊗◌ : Expression R → Expression R → Expression R
  ⊖◌ : Expression R → Expression R
  halved : Expression R → Expression R

abbrev pub ◌⊝◌ : {R : Type 0} → Expression R → Expression R → Expression R
e ⊝ f = e ⊕ (⊖ f)

abbrev pub v0 : {R : Type 0} → Expression R
v0 = var 0

abbrev pub v1 : {R : Type 0} → Expression R
v1 = var 1

abbrev pub v2 : {R : Type 0} → Expression R
v2 = var 2

abbrev pub v3 : {R : Type 0} → Expression R
v3 = var 3

abbrev pub v4 : {R : Type 0} → Expression R
v4 = var 4

abbrev pub v5 : {R : Type 0} → Expression R
v5 = var 5

abbrev pub v6 : {R : Type 0} → Expression R
v6 = var 6

abbrev pub v7 : {R : Type 0} → Expression R
v7 = var 7

abbrev pub v8 : {R : Type 0} → Expression R
v8 = var 8

abbrev pub v9 : {R : Type 0} → Expression R
v9 = var 9

abbrev pub v10 : {R : Type 0} → Expression R
v10 = var 10

abbrev pub v11 : {R : Type 0} → Expression R
v11 = var 11

-- the operations of a ring, with a half, the product by `factor`, and a test for zero
pub record Operations (R : Type 0) : Type 0 where
  pub add : R → R → R
  pub mul : R → R → R
  pub neg : R → R
  pub half : R → R
  pub nought : R
  pub unit : R
  pub factor : R
  pub is_nought : R → Bool

-- the operations are those of a commutative ring up to E
pub record IsRing {R : Type 0} (E : R → R → Type 0) (o : Operations R) : Type 0 where
  pub same_refl : (x : R) → E x x
  pub same_sym : (x y : R) → E x y → E y x
  pub same_trans : (x y z : R) → E x y → E y z → E x z
  pub add_same : (x y z w : R) → E x z → E y w → E (o.add x y) (o.add z w)
  pub mul_same : (x y z w : R) → E x z → E y w → E (o.mul x y) (o.mul z w)
  pub add_comm : (x y : R) → E (o.add x y) (o.add y x)
  pub add_assoc : (x y z : R) → E (o.add (o.add x y) z) (o.add x (o.add y z))
  pub add_nought : (x : R) → E (o.add x o.nought) x
  pub add_neg : (x : R) → E (o.add x (o.neg x)) o.nought
  pub mul_comm : (x y : R) → E (o.mul x y) (o.mul y x)
  pub mul_assoc : (x y z : R) → E (o.mul (o.mul x y) z) (o.mul x (o.mul y z))
  pub mul_unit : (x : R) → E (o.mul x o.unit) x
  pub mul_nought : (x : R) → E (o.mul x o.nought) o.nought
  pub mul_add : (x y z : R) → E (o.mul x (o.add y z)) (o.add (o.mul x y) (o.mul x z))
  pub neg_is_product : (x : R) → E (o.neg x) (o.mul (o.neg o.unit) x)
  pub half_is_product : (x : R) → E (o.half x) (o.mul o.factor x)
  pub nought_is : (x : R) → o.is_nought x ≡ true → E x o.nought

-- a sum of products: a coefficient and the places of the variables, in order, and the rest
pub data Sum (R : Type 0) : Type 0 where
  nothing : Sum R
  term : R → List ℕ → Sum R → Sum R

-- ---- products of variables

abbrev pub place : ℕ → List ℕ → List ℕ
place v [] = v ∷ []
place v (w ∷ m) = let r = place v m in elim (leb v w) [ true ↦ v ∷ w ∷ m | false ↦ w ∷ r ]

abbrev pub merged : List ℕ → List ℕ → List ℕ
merged [] n = n
merged (v ∷ m) n = place v (merged m n)

abbrev pub is_same_list : List ℕ → List ℕ → Bool
is_same_list [] [] = true
is_same_list [] (w ∷ n) = false
is_same_list (v ∷ m) [] = false
is_same_list (v ∷ m) (w ∷ n) = let r = is_same_list m n in elim (eqb v w) [ true ↦ r | false ↦ false ]

same_if : (v w : ℕ) (m n : List ℕ) (t r : Bool) → eqb v w ≡ t → (r ≡ true → m ≡ n)
    → elim t as (λ _. Bool) [ true ↦ r | false ↦ false ] ≡ true → v ∷ m ≡ w ∷ n
same_if v w m n true r p f e = ap₂ (λ (x : ℕ) (l : List ℕ). x ∷ l) (eqb-true v w p) (f e)
same_if v w m n false r p f e = absurd (true≢false (sym e))

same_list_is : (m n : List ℕ) → is_same_list m n ≡ true → m ≡ n
same_list_is [] [] e = refl
same_list_is [] (w ∷ n) e = absurd (true≢false (sym e))
same_list_is (v ∷ m) [] e = absurd (true≢false (sym e))
same_list_is (v ∷ m) (w ∷ n) e = same_if v w m n (eqb v w) (is_same_list m n) refl (same_list_is m n) e

module _ {R : Type 0} (o : Operations R) where
  -- ---- sums

  abbrev pub collected : R → List ℕ → Sum R → Sum R
  collected c m nothing = term c m nothing
  collected c m (term d n p) =
      let r = collected c m p in let s = o.add c d
      in elim (is_same_list m n) [ true ↦ term s n p | false ↦ term d n r ]

  abbrev pub plus : Sum R → Sum R → Sum R
  plus nothing q = q
  plus (term c m p) q = collected c m (plus p q)

  abbrev pub scaled : R → List ℕ → Sum R → Sum R
  scaled c m nothing = nothing
  scaled c m (term d n q) = collected (o.mul c d) (merged m n) (scaled c m q)

  abbrev pub times : Sum R → Sum R → Sum R
  times nothing q = nothing
  times (term c m p) q = plus (scaled c m q) (times p q)

  abbrev pub sum_of_products : Expression R → Sum R
  sum_of_products (var i) = term o.unit (i ∷ []) nothing
  sum_of_products (con c) = term c [] nothing
  sum_of_products (e ⊕ f) = plus (sum_of_products e) (sum_of_products f)
  sum_of_products (e ⊗ f) = times (sum_of_products e) (sum_of_products f)
  sum_of_products (⊖ e) = scaled (o.neg o.unit) [] (sum_of_products e)
  sum_of_products (halved e) = scaled o.factor [] (sum_of_products e)

  abbrev pub vanishes : Sum R → Bool
  vanishes nothing = true
  vanishes (term c m p) = let r = vanishes p in elim (o.is_nought c) [ true ↦ r | false ↦ false ]

  -- ---- what they stand for

  abbrev pub variable_at : List R → ℕ → R
  variable_at [] i = o.nought
  variable_at (x ∷ xs) zero = x
  variable_at (x ∷ xs) (suc i) = variable_at xs i

  abbrev pub value : List R → Expression R → R
  value xs (var i) = variable_at xs i
  value xs (con c) = c
  value xs (e ⊕ f) = o.add (value xs e) (value xs f)
  value xs (e ⊗ f) = o.mul (value xs e) (value xs f)
  value xs (⊖ e) = o.neg (value xs e)
  value xs (halved e) = o.half (value xs e)

  product_value : List R → List ℕ → R
  product_value xs [] = o.unit
  product_value xs (i ∷ m) = o.mul (variable_at xs i) (product_value xs m)

  sum_value : List R → Sum R → R
  sum_value xs nothing = o.nought
  sum_value xs (term c m p) = o.add (o.mul c (product_value xs m)) (sum_value xs p)

module _ {R : Type 0} {E : R → R → Type 0} {o : Operations R} (l : IsRing E o) where
  chain : {x y z : R} → E x y → E y z → E x z
  chain {x} {y} {z} p q = l.same_trans x y z p q

  turned : {x y : R} → E x y → E y x
  turned {x} {y} p = l.same_sym x y p

  left_add : (z : R) {x y : R} → E x y → E (o.add x z) (o.add y z)
  left_add z {x} {y} p = l.add_same x z y z p (l.same_refl z)

  right_add : (z : R) {x y : R} → E x y → E (o.add z x) (o.add z y)
  right_add z {x} {y} p = l.add_same z x z y (l.same_refl z) p

  left_mul : (z : R) {x y : R} → E x y → E (o.mul x z) (o.mul y z)
  left_mul z {x} {y} p = l.mul_same x z y z p (l.same_refl z)

  right_mul : (z : R) {x y : R} → E x y → E (o.mul z x) (o.mul z y)
  right_mul z {x} {y} p = l.mul_same z x z y (l.same_refl z) p

  unit_mul : (x : R) → E (o.mul o.unit x) x
  unit_mul x = chain (l.mul_comm o.unit x) (l.mul_unit x)

  nought_add : (x : R) → E (o.add o.nought x) x
  nought_add x = chain (l.add_comm o.nought x) (l.add_nought x)

  nought_mul : (x : R) → E (o.mul o.nought x) o.nought
  nought_mul x = chain (l.mul_comm o.nought x) (l.mul_nought x)

  add_mul : (x y z : R) → E (o.mul (o.add x y) z) (o.add (o.mul x z) (o.mul y z))
  add_mul x y z = chain (l.mul_comm (o.add x y) z)
      (chain (l.mul_add z x y) (l.add_same (o.mul z x) (o.mul z y) (o.mul x z) (o.mul y z) (l.mul_comm z x)
      (l.mul_comm z y)))

  exchanged_add : (x y z : R) → E (o.add x (o.add y z)) (o.add y (o.add x z))
  exchanged_add x y z =
      chain (turned (l.add_assoc x y z)) (chain (left_add z (l.add_comm x y)) (l.add_assoc y x z))

  exchanged_mul : (x y z : R) → E (o.mul x (o.mul y z)) (o.mul y (o.mul x z))
  exchanged_mul x y z =
      chain (turned (l.mul_assoc x y z)) (chain (left_mul z (l.mul_comm x y)) (l.mul_assoc y x z))

  crossed_mul : (x y z w : R) → E (o.mul (o.mul x y) (o.mul z w)) (o.mul (o.mul x z) (o.mul y w))
  crossed_mul x y z w =
      chain (l.mul_assoc x y (o.mul z w))
      (chain (right_mul x (exchanged_mul y z w)) (turned (l.mul_assoc x z (o.mul y w))))

  module _ (xs : List R) where
    place_by : (v w : ℕ) (m r : List ℕ) (t : Bool)
        → E (product_value o xs r) (o.mul (variable_at o xs v) (product_value o xs m))
        → E (product_value o xs (elim t as (λ _. List ℕ) [ true ↦ v ∷ w ∷ m | false ↦ w ∷ r ]))
        (o.mul (variable_at o xs v) (product_value o xs (w ∷ m)))
    unfolding product_value
    place_by v w m r true p = l.same_refl _
    place_by v w m r false p = chain (right_mul (variable_at o xs w) p) (exchanged_mul _ _ _)

    place_is : (v : ℕ) (m : List ℕ)
        → E (product_value o xs (place v m)) (o.mul (variable_at o xs v) (product_value o xs m))
    unfolding product_value
    place_is v [] = l.same_refl _
    place_is v (w ∷ m) = place_by v w m (place v m) (leb v w) (place_is v m)

    merged_is : (m n : List ℕ)
        → E (product_value o xs (merged m n)) (o.mul (product_value o xs m) (product_value o xs n))
    unfolding product_value
    merged_is [] n = turned (unit_mul _)
    merged_is (v ∷ m) n =
        chain (place_is v (merged m n))
        (chain (right_mul (variable_at o xs v) (merged_is m n)) (turned (l.mul_assoc _ _ _)))

    collected_by : (c d : R) (m n : List ℕ) (p r : Sum R) (t : Bool) → is_same_list m n ≡ t
        → E (sum_value o xs r) (o.add (o.mul c (product_value o xs m)) (sum_value o xs p))
        → E (sum_value o xs (elim t as (λ _. Sum R) [ true ↦ term (o.add c d) n p | false ↦ term d n r ]))
        (o.add (o.mul c (product_value o xs m)) (sum_value o xs (term d n p)))
    unfolding sum_value
    collected_by c d m n p r true e h =
        subst (λ (k : List ℕ). E (o.add (o.mul (o.add c d) (product_value o xs n)) (sum_value o xs p))
        (o.add (o.mul c (product_value o xs k))
        (o.add (o.mul d (product_value o xs n)) (sum_value o xs p)))) (sym (same_list_is m n e))
        (chain (left_add (sum_value o xs p) (add_mul c d (product_value o xs n))) (l.add_assoc _ _ _))
    collected_by c d m n p r false e h =
        chain (right_add (o.mul d (product_value o xs n)) h) (exchanged_add _ _ _)

    collected_is : (c : R) (m : List ℕ) (p : Sum R)
        → E (sum_value o xs (collected o c m p)) (o.add (o.mul c (product_value o xs m)) (sum_value o xs p))
    unfolding sum_value
    collected_is c m nothing = l.same_refl _
    collected_is c m (term d n p) =
        collected_by c d m n p (collected o c m p) (is_same_list m n) refl (collected_is c m p)

    plus_is : (p q : Sum R) → E (sum_value o xs (plus o p q)) (o.add (sum_value o xs p) (sum_value o xs q))
    unfolding sum_value
    plus_is nothing q = turned (nought_add _)
    plus_is (term c m p) q =
        chain (collected_is c m (plus o p q))
        (chain (right_add (o.mul c (product_value o xs m)) (plus_is p q)) (turned (l.add_assoc _ _ _)))

    scaled_is : (c : R) (m : List ℕ) (q : Sum R)
        → E (sum_value o xs (scaled o c m q)) (o.mul (o.mul c (product_value o xs m)) (sum_value o xs q))
    unfolding sum_value
    scaled_is c m nothing = turned (l.mul_nought _)
    scaled_is c m (term d n q) =
        chain (collected_is (o.mul c d) (merged m n) (scaled o c m q))
        (chain (l.add_same _ _ _ _ (chain (right_mul (o.mul c d) (merged_is m n)) (crossed_mul _ _ _ _))
        (scaled_is c m q)) (turned (l.mul_add _ _ _)))

    times_is : (p q : Sum R) → E (sum_value o xs (times o p q)) (o.mul (sum_value o xs p) (sum_value o xs q))
    unfolding sum_value
    times_is nothing q = turned (nought_mul _)
    times_is (term c m p) q =
        chain (plus_is (scaled o c m q) (times o p q))
        (chain (l.add_same _ _ _ _ (scaled_is c m q) (times_is p q)) (turned (add_mul _ _ _)))

    single_is : (c : R) (e : Expression R) → E (sum_value o xs (sum_of_products o e)) (value o xs e)
        → E (sum_value o xs (scaled o c [] (sum_of_products o e))) (o.mul c (value o xs e))
    unfolding product_value
    single_is c e h = chain (scaled_is c [] (sum_of_products o e)) (l.mul_same _ _ _ _ (l.mul_unit c) h)

    sum_is : (e : Expression R) → E (sum_value o xs (sum_of_products o e)) (value o xs e)
    unfolding sum_value product_value
    sum_is (var i) = chain (l.add_nought _) (chain (unit_mul _) (l.mul_unit _))
    sum_is (con c) = chain (l.add_nought _) (l.mul_unit _)
    sum_is (e ⊕ f) = chain (plus_is (sum_of_products o e) (sum_of_products o f))
        (l.add_same _ _ _ _ (sum_is e) (sum_is f))
    sum_is (e ⊗ f) = chain (times_is (sum_of_products o e) (sum_of_products o f))
        (l.mul_same _ _ _ _ (sum_is e) (sum_is f))
    sum_is (⊖ e) = chain (single_is (o.neg o.unit) e (sum_is e)) (turned (l.neg_is_product _))
    sum_is (halved e) = chain (single_is o.factor e (sum_is e)) (turned (l.half_is_product _))

    vanishes_by : (c : R) (m : List ℕ) (p : Sum R) (t r : Bool) → o.is_nought c ≡ t
        → (r ≡ true → E (sum_value o xs p) o.nought)
        → elim t as (λ _. Bool) [ true ↦ r | false ↦ false ] ≡ true → E (sum_value o xs (term c m p)) o.nought
    unfolding sum_value
    vanishes_by c m p true r e f h =
        chain (l.add_same _ _ _ _ (chain (left_mul (product_value o xs m) (l.nought_is c e)) (nought_mul _))
        (f h)) (l.add_nought _)
    vanishes_by c m p false r e f h = absurd (true≢false (sym h))

    vanishes_is : (p : Sum R) → vanishes o p ≡ true → E (sum_value o xs p) o.nought
    unfolding sum_value
    vanishes_is nothing h = l.same_refl _
    vanishes_is (term c m p) h = vanishes_by c m p (o.is_nought c) (vanishes o p) refl (vanishes_is p) h

    apart : (x y : R) → E (o.add x (o.neg y)) o.nought → E x y
    apart x y h =
        chain (turned (l.add_nought x))
        (chain (right_add x (turned (chain (l.add_comm (o.neg y) y) (l.add_neg y))))
        (chain (turned (l.add_assoc x (o.neg y) y)) (chain (left_add y h) (nought_add y))))

    pub solved : (e f : Expression R) → vanishes o (sum_of_products o (e ⊝ f)) ≡ true
        → E (value o xs e) (value o xs f)
    solved e f h = apart (value o xs e) (value o xs f)
        (chain (turned (sum_is (e ⊝ f))) (vanishes_is (sum_of_products o (e ⊝ f)) h))

    dropped : (h g c e : Expression R) → E (value o xs h) (value o xs g)
        → E (value o xs (e ⊝ c ⊗ (h ⊝ g))) o.nought → E (value o xs e) o.nought
    dropped h g c e p q =
        chain (apart (value o xs e) (value o xs (c ⊗ (h ⊝ g))) q)
        (chain (right_mul (value o xs c)
        (chain (left_add (o.neg (value o xs g)) p) (l.add_neg (value o xs g))))
        (l.mul_nought (value o xs c)))

    vanished : (e : Expression R) → vanishes o (sum_of_products o e) ≡ true → E (value o xs e) o.nought
    vanished e h = chain (turned (sum_is e)) (vanishes_is (sum_of_products o e) h)

    pub solved_from : (h g c e f : Expression R) → vanishes o (sum_of_products o (e ⊝ f ⊝ c ⊗ (h ⊝ g))) ≡ true
        → E (value o xs h) (value o xs g) → E (value o xs e) (value o xs f)
    solved_from h g c e f t p =
        apart (value o xs e) (value o xs f) (dropped h g c (e ⊝ f) p (vanished (e ⊝ f ⊝ c ⊗ (h ⊝ g)) t))

    pub solved_from_two : (h g c h' g' c' e f : Expression R)
        → vanishes o (sum_of_products o (e ⊝ f ⊝ c ⊗ (h ⊝ g) ⊝ c' ⊗ (h' ⊝ g'))) ≡ true
        → E (value o xs h) (value o xs g) → E (value o xs h') (value o xs g')
        → E (value o xs e) (value o xs f)
    solved_from_two h g c h' g' c' e f t p p' =
        apart (value o xs e) (value o xs f)
        (dropped h g c (e ⊝ f) p (dropped h' g' c' (e ⊝ f ⊝ c ⊗ (h ⊝ g)) p'
        (vanished (e ⊝ f ⊝ c ⊗ (h ⊝ g) ⊝ c' ⊗ (h' ⊝ g')) t)))

    pub solved_from_three : (h g c h' g' c' h'' g'' c'' e f : Expression R)
        → vanishes o (sum_of_products o (e ⊝ f ⊝ c ⊗ (h ⊝ g) ⊝ c' ⊗ (h' ⊝ g') ⊝ c'' ⊗ (h'' ⊝ g''))) ≡ true
        → E (value o xs h) (value o xs g) → E (value o xs h') (value o xs g')
        → E (value o xs h'') (value o xs g'') → E (value o xs e) (value o xs f)
    solved_from_three h g c h' g' c' h'' g'' c'' e f t p p' p'' =
        apart (value o xs e) (value o xs f)
        (dropped h g c (e ⊝ f) p (dropped h' g' c' (e ⊝ f ⊝ c ⊗ (h ⊝ g)) p'
        (dropped h'' g'' c'' (e ⊝ f ⊝ c ⊗ (h ⊝ g) ⊝ c' ⊗ (h' ⊝ g')) p''
        (vanished (e ⊝ f ⊝ c ⊗ (h ⊝ g) ⊝ c' ⊗ (h' ⊝ g') ⊝ c'' ⊗ (h'' ⊝ g'')) t))))
