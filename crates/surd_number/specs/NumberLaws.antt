-- The exact numbers are a commutative ring up to `IsSame`, and equations over them are proved by multiplying out.
--
-- To prove one, write its sides as expressions over the list of its variables, v0 the first of the list:
--
--     square_of_difference : (x y : Number) → IsSame (product_of (difference_of x y) (difference_of x y)) (sum_of (product_of x x) (difference_of (product_of y y) (product_of (whole (pos 2)) (product_of x y))))
--     square_of_difference x y = number_ring (x ∷ y ∷ []) ((v0 ⊝ v1) ⊗ (v0 ⊝ v1)) (v0 ⊗ v0 ⊕ (v1 ⊗ v1 ⊝ con (whole (pos 2)) ⊗ (v0 ⊗ v1))) refl
--
--     sum_of e ⊕ f, product_of e ⊗ f, negative_of ⊖ e, difference_of e ⊝ f, half_of halved e; root_two, tangent, unit_of 1 3 and
--     any other closed number: con c. A variable may stand for any number, as `cross p q`.
--
-- To prove one from other facts, `number_ring_from xs h g c e f refl p` takes p : IsSame h g and gives IsSame e f, where e ⊝ f is
-- c ⊗ (h ⊝ g); `number_ring_from_two` and `number_ring_from_three` take two and three such facts, each with its h, g and c:
--
--     cancelled : (x y u v : Number) → IsSame (product_of x u) (product_of y u) → IsSame (product_of u v) (whole (pos 1)) → IsSame x y
--     cancelled x y u v p q = number_ring_from_two (x ∷ y ∷ u ∷ v ∷ []) (v0 ⊗ v2) (v1 ⊗ v2) v3 (v2 ⊗ v3) (con (whole (pos 1))) (v1 ⊝ v0) v0 v1 refl p q
--
-- `false ≡ true` against `refl` means that the two sides are not equal, or that a c is wrong. The congruences
-- (`sum_of-same` ..) and
-- `IsSame-trans` want their numbers written: a `_` for a number is not found. Numerators and powers of two themselves: `int_ring`.
use Rattle.std.proofs.Common.{◌≡◌, ℕ, zero, suc, ◌+◌, ◌≤◌, ◌↔◌, Bool, true, false, List, [], ◌∷◌, ℤ, pos, ◌+ℤ◌, ◌*ℤ◌, neg_ℤ, true≢false, refl, sym, ap, ap₂, ◌∙◌, arith, pow-add}
use Rattle.surd_number.specs.RingTool.{Expression, Operations, IsRing, vanishes, sum_of_products, value, solved, solved_from, solved_from_two, solved_from_three, ◌⊕◌, ◌⊝◌, ◌⊗◌, ⊖◌, halved, con, v0, v1, v2, v3, v4, v5, v6, v7, v8}
use Rattle.surd_number.specs.IntRing.{int_ring, whole_numbers, int_power_cancel, int_is_zero, int_zero_is}
use Rattle.surd_number.specs.Number.{Number, IsSame, power, whole, sum_of, product_of, negative_of, difference_of, half_of, root_two, tangent, power_of, unit_of, unit_inverse_of, IsCanonical}

-- ---- IsSame is an equivalence

pub IsSame-refl : (x : Number) → IsSame x x
IsSame-refl x = (refl, refl)

pub IsSame-sym : (x y : Number) → IsSame x y → IsSame y x
IsSame-sym x y p = (sym p.0, sym p.1)

crossed : (a b c P Q S : ℤ) → a *ℤ Q ≡ b *ℤ P → b *ℤ S ≡ c *ℤ Q → a *ℤ S *ℤ Q ≡ c *ℤ P *ℤ Q
crossed a b c P Q S p q =
    int_ring (a ∷ Q ∷ S ∷ []) (v0 ⊗ v2 ⊗ v1) (v0 ⊗ v1 ⊗ v2) refl ∙ ap (λ (n : ℤ). n *ℤ S) p
    ∙ int_ring (b ∷ P ∷ S ∷ []) (v0 ⊗ v1 ⊗ v2) (v0 ⊗ v2 ⊗ v1) refl ∙ ap (λ (n : ℤ). n *ℤ P) q
    ∙ int_ring (c ∷ P ∷ Q ∷ []) (v0 ⊗ v2 ⊗ v1) (v0 ⊗ v1 ⊗ v2) refl

pub IsSame-trans : (x y z : Number) → IsSame x y → IsSame y z → IsSame x z
IsSame-trans x y z p q = (
  int_power_cancel (x.a *ℤ power z.k) (z.a *ℤ power x.k) y.k
      (crossed x.a y.a z.a (power x.k) (power y.k) (power z.k) p.0 q.0),
  int_power_cancel (x.b *ℤ power z.k) (z.b *ℤ power x.k) y.k
      (crossed x.b y.b z.b (power x.k) (power y.k) (power z.k) p.1 q.1),
)

-- ---- the operations keep IsSame

sum_scaled : (a b c d P Q S T : ℤ) → a *ℤ S ≡ c *ℤ P → b *ℤ T ≡ d *ℤ Q
    → (a *ℤ Q +ℤ b *ℤ P) *ℤ (S *ℤ T) ≡ (c *ℤ T +ℤ d *ℤ S) *ℤ (P *ℤ Q)
sum_scaled a b c d P Q S T p q =
    int_ring (a ∷ b ∷ P ∷ Q ∷ S ∷ T ∷ []) ((v0 ⊗ v3 ⊕ v1 ⊗ v2) ⊗ (v4 ⊗ v5))
    (v0 ⊗ v4 ⊗ (v3 ⊗ v5) ⊕ v1 ⊗ v5 ⊗ (v2 ⊗ v4)) refl
    ∙ ap₂ (λ (m n : ℤ). m *ℤ (Q *ℤ T) +ℤ n *ℤ (P *ℤ S)) p q
    ∙ int_ring (c ∷ d ∷ P ∷ Q ∷ S ∷ T ∷ []) (v0 ⊗ v2 ⊗ (v3 ⊗ v5) ⊕ v1 ⊗ v3 ⊗ (v2 ⊗ v4))
    ((v0 ⊗ v5 ⊕ v1 ⊗ v4) ⊗ (v2 ⊗ v3)) refl

pub sum_of-same : (x y z w : Number) → IsSame x z → IsSame y w → IsSame (sum_of x y) (sum_of z w)
sum_of-same x y z w p q = (
  simp (pow-add 2) (sum_scaled x.a y.a z.a w.a (power x.k) (power y.k) (power z.k) (power w.k) p.0 q.0),
  simp (pow-add 2) (sum_scaled x.b y.b z.b w.b (power x.k) (power y.k) (power z.k) (power w.k) p.1 q.1),
)

product_scaled : (a b c d P Q S T : ℤ) → a *ℤ S ≡ c *ℤ P → b *ℤ T ≡ d *ℤ Q
    → a *ℤ b *ℤ (S *ℤ T) ≡ c *ℤ d *ℤ (P *ℤ Q)
product_scaled a b c d P Q S T p q =
    int_ring (a ∷ b ∷ S ∷ T ∷ []) (v0 ⊗ v1 ⊗ (v2 ⊗ v3)) (v0 ⊗ v2 ⊗ (v1 ⊗ v3)) refl ∙ ap₂ ◌*ℤ◌ p q
    ∙ int_ring (c ∷ d ∷ P ∷ Q ∷ []) (v0 ⊗ v2 ⊗ (v1 ⊗ v3)) (v0 ⊗ v1 ⊗ (v2 ⊗ v3)) refl

parts_scaled : (m a b c d m' a' b' c' d' N N' : ℤ) → a *ℤ b *ℤ N ≡ a' *ℤ b' *ℤ N'
    → c *ℤ d *ℤ N ≡ c' *ℤ d' *ℤ N' → m ≡ m'
    → (a *ℤ b +ℤ m *ℤ (c *ℤ d)) *ℤ N ≡ (a' *ℤ b' +ℤ m' *ℤ (c' *ℤ d')) *ℤ N'
parts_scaled m a b c d m' a' b' c' d' N N' p q e =
    int_ring (m ∷ (a *ℤ b) ∷ (c *ℤ d) ∷ N ∷ []) ((v1 ⊕ v0 ⊗ v2) ⊗ v3) (v1 ⊗ v3 ⊕ v0 ⊗ (v2 ⊗ v3)) refl
    ∙ (λ i. p i +ℤ e i *ℤ q i)
    ∙ int_ring (m' ∷ (a' *ℤ b') ∷ (c' *ℤ d') ∷ N' ∷ []) (v1 ⊗ v3 ⊕ v0 ⊗ (v2 ⊗ v3)) ((v1 ⊕ v0 ⊗ v2) ⊗ v3) refl

crossed_scaled : (a b c d a' b' c' d' N N' : ℤ) → a *ℤ b *ℤ N ≡ a' *ℤ b' *ℤ N' → c *ℤ d *ℤ N ≡ c' *ℤ d' *ℤ N'
    → (a *ℤ b +ℤ c *ℤ d) *ℤ N ≡ (a' *ℤ b' +ℤ c' *ℤ d') *ℤ N'
crossed_scaled a b c d a' b' c' d' N N' p q =
    int_ring ((a *ℤ b) ∷ (c *ℤ d) ∷ N ∷ []) ((v0 ⊕ v1) ⊗ v2) (v0 ⊗ v2 ⊕ v1 ⊗ v2) refl ∙ ap₂ ◌+ℤ◌ p q
    ∙ int_ring ((a' *ℤ b') ∷ (c' *ℤ d') ∷ N' ∷ []) (v0 ⊗ v2 ⊕ v1 ⊗ v2) ((v0 ⊕ v1) ⊗ v2) refl

pub product_of-same : (x y z w : Number) → IsSame x z → IsSame y w → IsSame (product_of x y) (product_of z w)
product_of-same x y z w p q = (
  simp (pow-add 2) (parts_scaled (pos 2) x.a y.a x.b y.b (pos 2) z.a w.a z.b w.b (power z.k *ℤ power w.k)
      (power x.k *ℤ power y.k)
      (product_scaled x.a y.a z.a w.a (power x.k) (power y.k) (power z.k) (power w.k) p.0 q.0)
      (product_scaled x.b y.b z.b w.b (power x.k) (power y.k) (power z.k) (power w.k) p.1 q.1) refl),
  simp (pow-add 2) (crossed_scaled x.a y.b x.b y.a z.a w.b z.b w.a (power z.k *ℤ power w.k)
      (power x.k *ℤ power y.k)
      (product_scaled x.a y.b z.a w.b (power x.k) (power y.k) (power z.k) (power w.k) p.0 q.1)
      (product_scaled x.b y.a z.b w.a (power x.k) (power y.k) (power z.k) (power w.k) p.1 q.0)),
)

negative_scaled : (a b P Q : ℤ) → a *ℤ Q ≡ b *ℤ P → neg_ℤ a *ℤ Q ≡ neg_ℤ b *ℤ P
negative_scaled a b P Q p =
    int_ring (a ∷ Q ∷ []) (⊖ v0 ⊗ v1) (⊖ (v0 ⊗ v1)) refl ∙ ap neg_ℤ p
    ∙ int_ring (b ∷ P ∷ []) (⊖ (v0 ⊗ v1)) (⊖ v0 ⊗ v1) refl

pub negative_of-same : (x y : Number) → IsSame x y → IsSame (negative_of x) (negative_of y)
negative_of-same x y p =
    (negative_scaled x.a y.a (power x.k) (power y.k) p.0, negative_scaled x.b y.b (power x.k) (power y.k) p.1)

pub difference_of-same : (x y z w : Number) → IsSame x z → IsSame y w
    → IsSame (difference_of x y) (difference_of z w)
difference_of-same x y z w p q = sum_of-same x (negative_of y) z (negative_of w) p (negative_of-same y w q)

half_scaled : (a b P Q : ℤ) → a *ℤ Q ≡ b *ℤ P → a *ℤ (Q *ℤ pos 2) ≡ b *ℤ (P *ℤ pos 2)
half_scaled a b P Q p =
    int_ring (a ∷ Q ∷ []) (v0 ⊗ (v1 ⊗ con (pos 2))) (v0 ⊗ v1 ⊗ con (pos 2)) refl
    ∙ ap (λ (n : ℤ). n *ℤ pos 2) p
    ∙ int_ring (b ∷ P ∷ []) (v0 ⊗ v1 ⊗ con (pos 2)) (v0 ⊗ (v1 ⊗ con (pos 2))) refl

pub half_of-same : (x y : Number) → IsSame x y → IsSame (half_of x) (half_of y)
half_of-same x y p = (
  simp (pow-add 2) (half_scaled x.a y.a (power x.k) (power y.k) p.0),
  simp (pow-add 2) (half_scaled x.b y.b (power x.k) (power y.k) p.1),
)

-- ---- the ring

-- a number's numerators and power of two, as expressions over whole numbers
record Symbol : Type 0 where
  n : Expression ℤ
  r : Expression ℤ
  p : Expression ℤ

abbrev x0 : Symbol
x0 = record { n = v0; r = v1; p = v2 }

abbrev x1 : Symbol
x1 = record { n = v3; r = v4; p = v5 }

abbrev x2 : Symbol
x2 = record { n = v6; r = v7; p = v8 }

abbrev added : Symbol → Symbol → Symbol
added x y = record { n = x.n ⊗ y.p ⊕ y.n ⊗ x.p; r = x.r ⊗ y.p ⊕ y.r ⊗ x.p; p = x.p ⊗ y.p }

abbrev multiplied : Symbol → Symbol → Symbol
multiplied x y = record {
  n = x.n ⊗ y.n ⊕ con (pos 2) ⊗ (x.r ⊗ y.r);
  r = x.n ⊗ y.r ⊕ x.r ⊗ y.n;
  p = x.p ⊗ y.p;
}

abbrev opposite : Symbol → Symbol
opposite x = record { n = ⊖ x.n; r = ⊖ x.r; p = x.p }

abbrev divided : Symbol → Symbol
divided x = record { n = x.n; r = x.r; p = x.p ⊗ con (pos 2) }

abbrev fixed : Number → Symbol
fixed x = record { n = con x.a; r = con x.b; p = con (power x.k) }

abbrev parts : List Number → List ℤ
parts [] = []
parts (x ∷ xs) = x.a ∷ x.b ∷ power x.k ∷ parts xs

same_parts : (xs : List Number) (s t : Symbol)
    → vanishes whole_numbers (sum_of_products whole_numbers (s.n ⊗ t.p ⊝ t.n ⊗ s.p)) ≡ true
    → vanishes whole_numbers (sum_of_products whole_numbers (s.r ⊗ t.p ⊝ t.r ⊗ s.p)) ≡ true
    → (value whole_numbers (parts xs) (s.n ⊗ t.p) ≡ value whole_numbers (parts xs) (t.n ⊗ s.p))
    × (value whole_numbers (parts xs) (s.r ⊗ t.p) ≡ value whole_numbers (parts xs) (t.r ⊗ s.p))
same_parts xs s t e f =
    (int_ring (parts xs) (s.n ⊗ t.p) (t.n ⊗ s.p) e, int_ring (parts xs) (s.r ⊗ t.p) (t.r ⊗ s.p) f)

-- one half
abbrev pub one_half : Number
one_half = record { a = pos 1; b = pos 0; k = 1 }

pub sum_of-comm : (x y : Number) → IsSame (sum_of x y) (sum_of y x)
sum_of-comm x y = simp (pow-add 2) (same_parts (x ∷ y ∷ []) (added x0 x1) (added x1 x0) refl refl)

pub sum_of-assoc : (x y z : Number) → IsSame (sum_of (sum_of x y) z) (sum_of x (sum_of y z))
sum_of-assoc x y z =
    simp (pow-add 2) (same_parts (x ∷ y ∷ z ∷ []) (added (added x0 x1) x2) (added x0 (added x1 x2)) refl refl)

pub sum_of-zero : (x : Number) → IsSame (sum_of x (whole (pos 0))) x
sum_of-zero x = simp (pow-add 2) (same_parts (x ∷ []) (added x0 (fixed (whole (pos 0)))) x0 refl refl)

pub sum_of-negative : (x : Number) → IsSame (sum_of x (negative_of x)) (whole (pos 0))
sum_of-negative x = simp (pow-add 2)
    (same_parts (x ∷ []) (added x0 (opposite x0)) (fixed (whole (pos 0))) refl refl)

pub product_of-comm : (x y : Number) → IsSame (product_of x y) (product_of y x)
product_of-comm x y =
    simp (pow-add 2) (same_parts (x ∷ y ∷ []) (multiplied x0 x1) (multiplied x1 x0) refl refl)

pub product_of-assoc : (x y z : Number)
    → IsSame (product_of (product_of x y) z) (product_of x (product_of y z))
product_of-assoc x y z =
    simp (pow-add 2) (same_parts (x ∷ y ∷ z ∷ []) (multiplied (multiplied x0 x1) x2)
    (multiplied x0 (multiplied x1 x2)) refl refl)

pub product_of-one : (x : Number) → IsSame (product_of x (whole (pos 1))) x
product_of-one x = simp (pow-add 2) (same_parts (x ∷ []) (multiplied x0 (fixed (whole (pos 1)))) x0 refl refl)

pub product_of-zero : (x : Number) → IsSame (product_of x (whole (pos 0))) (whole (pos 0))
product_of-zero x = simp (pow-add 2)
    (same_parts (x ∷ []) (multiplied x0 (fixed (whole (pos 0)))) (fixed (whole (pos 0))) refl refl)

pub product_of-sum : (x y z : Number)
    → IsSame (product_of x (sum_of y z)) (sum_of (product_of x y) (product_of x z))
product_of-sum x y z =
    simp (pow-add 2) (same_parts (x ∷ y ∷ z ∷ []) (multiplied x0 (added x1 x2))
    (added (multiplied x0 x1) (multiplied x0 x2)) refl refl)

negative_is_product : (x : Number) → IsSame (negative_of x) (product_of (negative_of (whole (pos 1))) x)
negative_is_product x =
    simp (pow-add 2) (same_parts (x ∷ []) (opposite x0)
    (multiplied (opposite (fixed (whole (pos 1)))) x0) refl refl)

half_is_product : (x : Number) → IsSame (half_of x) (product_of one_half x)
half_is_product x = simp (pow-add 2)
    (same_parts (x ∷ []) (divided x0) (multiplied (fixed one_half) x0) refl refl)

abbrev pub is_zero_number : Number → Bool
is_zero_number x = let r = int_is_zero x.b in elim (int_is_zero x.a) [ true ↦ r | false ↦ false ]

zero_number_by : (x : Number) (t : Bool) → int_is_zero x.a ≡ t
    → elim t as (λ _. Bool) [ true ↦ int_is_zero x.b | false ↦ false ] ≡ true → IsSame x (whole (pos 0))
zero_number_by x true e f =
    simp (int_zero_is x.a e, int_zero_is x.b f)
    (same_parts (x ∷ []) (record { n = con (pos 0); r = con (pos 0); p = v2 })
    (fixed (whole (pos 0))) refl refl)
zero_number_by x false e f = absurd (true≢false (sym f))

zero_number_is : (x : Number) → is_zero_number x ≡ true → IsSame x (whole (pos 0))
zero_number_is x e = zero_number_by x (int_is_zero x.a) refl e

abbrev pub exact_numbers : Operations Number
exact_numbers = record {
  add = sum_of;
  mul = product_of;
  neg = negative_of;
  half = half_of;
  nought = whole (pos 0);
  unit = whole (pos 1);
  factor = one_half;
  is_nought = is_zero_number;
}

pub exact_numbers_IsRing : IsRing IsSame exact_numbers
exact_numbers_IsRing = record {
  same_refl = IsSame-refl;
  same_sym = IsSame-sym;
  same_trans = IsSame-trans;
  add_same = sum_of-same;
  mul_same = product_of-same;
  add_comm = sum_of-comm;
  add_assoc = sum_of-assoc;
  add_nought = sum_of-zero;
  add_neg = sum_of-negative;
  mul_comm = product_of-comm;
  mul_assoc = product_of-assoc;
  mul_unit = product_of-one;
  mul_nought = product_of-zero;
  mul_add = product_of-sum;
  neg_is_product = negative_is_product;
  half_is_product = half_is_product;
  nought_is = zero_number_is;
}

-- an equation between exact numbers, by multiplying out
pub number_ring : (xs : List Number) (e f : Expression Number)
    → vanishes exact_numbers (sum_of_products exact_numbers (e ⊝ f)) ≡ true
    → IsSame (value exact_numbers xs e) (value exact_numbers xs f)
number_ring xs e f h = solved exact_numbers_IsRing xs e f h

-- from p, that h is g, where e ⊝ f is c ⊗ (h ⊝ g)
pub number_ring_from : (xs : List Number) (h g c e f : Expression Number)
    → vanishes exact_numbers (sum_of_products exact_numbers (e ⊝ f ⊝ c ⊗ (h ⊝ g))) ≡ true
    → IsSame (value exact_numbers xs h) (value exact_numbers xs g)
    → IsSame (value exact_numbers xs e) (value exact_numbers xs f)
number_ring_from xs h g c e f t p = solved_from exact_numbers_IsRing xs h g c e f t p

-- from two facts, where e ⊝ f is c ⊗ (h ⊝ g) ⊕ c' ⊗ (h' ⊝ g')
pub number_ring_from_two : (xs : List Number) (h g c h' g' c' e f : Expression Number)
    → vanishes exact_numbers (sum_of_products exact_numbers (e ⊝ f ⊝ c ⊗ (h ⊝ g) ⊝ c' ⊗ (h' ⊝ g'))) ≡ true
    → IsSame (value exact_numbers xs h) (value exact_numbers xs g)
    → IsSame (value exact_numbers xs h') (value exact_numbers xs g')
    → IsSame (value exact_numbers xs e) (value exact_numbers xs f)
number_ring_from_two xs h g c h' g' c' e f t p p' =
    solved_from_two exact_numbers_IsRing xs h g c h' g' c' e f t p p'

-- from three facts
pub number_ring_from_three : (xs : List Number) (h g c h' g' c' h'' g'' c'' e f : Expression Number)
    → vanishes exact_numbers (sum_of_products exact_numbers
    (e ⊝ f ⊝ c ⊗ (h ⊝ g) ⊝ c' ⊗ (h' ⊝ g') ⊝ c'' ⊗ (h'' ⊝ g''))) ≡ true
    → IsSame (value exact_numbers xs h) (value exact_numbers xs g)
    → IsSame (value exact_numbers xs h') (value exact_numbers xs g')
    → IsSame (value exact_numbers xs h'') (value exact_numbers xs g'')
    → IsSame (value exact_numbers xs e) (value exact_numbers xs f)
number_ring_from_three xs h g c h' g' c' h'' g'' c'' e f t p p' p'' =
    solved_from_three exact_numbers_IsRing xs h g c h' g' c' h'' g'' c'' e f t p p' p''

pub negative_of-product : (x y : Number)
    → IsSame (negative_of (product_of x y)) (product_of (negative_of x) y)
negative_of-product x y = number_ring (x ∷ y ∷ []) (⊖ (v0 ⊗ v1)) (⊖ v0 ⊗ v1) refl

-- ---- more laws

pub negative_of-product_right : (x y : Number)
    → IsSame (negative_of (product_of x y)) (product_of x (negative_of y))
negative_of-product_right x y = number_ring (x ∷ y ∷ []) (⊖ (v0 ⊗ v1)) (v0 ⊗ (⊖ v1)) refl

pub negative_of-negative : (x : Number) → IsSame (negative_of (negative_of x)) x
negative_of-negative x = number_ring (x ∷ []) (⊖ (⊖ v0)) v0 refl

pub negative_of-sum : (x y : Number)
    → IsSame (negative_of (sum_of x y)) (sum_of (negative_of x) (negative_of y))
negative_of-sum x y = number_ring (x ∷ y ∷ []) (⊖ (v0 ⊕ v1)) (⊖ v0 ⊕ ⊖ v1) refl

pub negative_of-difference : (x y : Number) → IsSame (negative_of (difference_of x y)) (difference_of y x)
negative_of-difference x y = number_ring (x ∷ y ∷ []) (⊖ (v0 ⊝ v1)) (v1 ⊝ v0) refl

pub difference_of-itself : (x : Number) → IsSame (difference_of x x) (whole (pos 0))
difference_of-itself x = sum_of-negative x

pub difference_of-zero : (x : Number) → IsSame (difference_of x (whole (pos 0))) x
difference_of-zero x = number_ring (x ∷ []) (v0 ⊝ con (whole (pos 0))) v0 refl

pub product_of-difference : (x y z : Number)
    → IsSame (product_of x (difference_of y z)) (difference_of (product_of x y) (product_of x z))
product_of-difference x y z = number_ring (x ∷ y ∷ z ∷ []) (v0 ⊗ (v1 ⊝ v2)) (v0 ⊗ v1 ⊝ v0 ⊗ v2) refl

pub half_of-sum_itself : (x : Number) → IsSame (sum_of (half_of x) (half_of x)) x
half_of-sum_itself x = number_ring (x ∷ []) (halved v0 ⊕ halved v0) v0 refl

pub half_of-double : (x : Number) → IsSame (half_of (sum_of x x)) x
half_of-double x = number_ring (x ∷ []) (halved (v0 ⊕ v0)) v0 refl

pub half_of-sum : (x y : Number) → IsSame (half_of (sum_of x y)) (sum_of (half_of x) (half_of y))
half_of-sum x y = number_ring (x ∷ y ∷ []) (halved (v0 ⊕ v1)) (halved v0 ⊕ halved v1) refl

pub half_of-product : (x y : Number) → IsSame (half_of (product_of x y)) (product_of (half_of x) y)
half_of-product x y = number_ring (x ∷ y ∷ []) (halved (v0 ⊗ v1)) (halved v0 ⊗ v1) refl

-- numerators doubled, over twice the power of two
pub doubled-same : (x : Number) → IsSame (record { a = x.a *ℤ pos 2; b = x.b *ℤ pos 2; k = x.k + 1 }) x
doubled-same x = simp (pow-add 2)
    (same_parts (x ∷ []) (record { n = v0 ⊗ con (pos 2); r = v1 ⊗ con (pos 2); p = v2 ⊗ con (pos 2) }) x0 refl
    refl)

-- numerators times 2^j, over 2^j times the power of two
pub scaled-same : (x : Number) (j : ℕ)
    → IsSame (record { a = x.a *ℤ power j; b = x.b *ℤ power j; k = x.k + j }) x
scaled-same x j = simp (pow-add 2) (
  int_ring (x.a ∷ power j ∷ power x.k ∷ []) (v0 ⊗ v1 ⊗ v2) (v0 ⊗ (v2 ⊗ v1)) refl,
  int_ring (x.b ∷ power j ∷ power x.k ∷ []) (v0 ⊗ v1 ⊗ v2) (v0 ⊗ (v2 ⊗ v1)) refl,
)

-- two numbers over one power of two
pub aligned-same : (x y : Number) → x.k ≡ y.k → IsSame x y → (x.a ≡ y.a) × (x.b ≡ y.b)
aligned-same x y e p = (
  int_power_cancel x.a y.a y.k (p.0 ∙ ap (λ (k : ℕ). y.a *ℤ power k) e),
  int_power_cancel x.b y.b y.k (p.1 ∙ ap (λ (k : ℕ). y.b *ℤ power k) e),
)

pub same_from_difference : (x y : Number) → IsSame (difference_of x y) (whole (pos 0)) → IsSame x y
same_from_difference x y p =
    number_ring_from (x ∷ y ∷ []) (v0 ⊝ v1) (con (whole (pos 0))) (con (whole (pos 1))) v0 v1 refl p

pub difference_from_same : (x y : Number) → IsSame x y → IsSame (difference_of x y) (whole (pos 0))
difference_from_same x y p =
    number_ring_from (x ∷ y ∷ []) v0 v1 (con (whole (pos 1))) (v0 ⊝ v1) (con (whole (pos 0))) refl p

pub sum_of-cancel : (x y z : Number) → IsSame (sum_of x z) (sum_of y z) → IsSame x y
sum_of-cancel x y z p =
    number_ring_from (x ∷ y ∷ z ∷ []) (v0 ⊕ v2) (v1 ⊕ v2) (con (whole (pos 1))) v0 v1 refl p

pub half_of-cancel : (x y : Number) → IsSame (half_of x) (half_of y) → IsSame x y
half_of-cancel x y p =
    number_ring_from (x ∷ y ∷ []) (halved v0) (halved v1) (con (whole (pos 2))) v0 v1 refl p

-- ---- the units

inverse_powers : (x y : Number) → IsSame (product_of x y) (whole (pos 1)) → (n : ℕ)
    → IsSame (product_of (power_of x n) (power_of y n)) (whole (pos 1))
inverse_powers x y p zero = (refl, refl)
inverse_powers x y p (suc n) =
    IsSame-trans (product_of (product_of x (power_of x n)) (product_of y (power_of y n)))
    (product_of (product_of x y) (product_of (power_of x n) (power_of y n))) (whole (pos 1))
    (number_ring (x ∷ power_of x n ∷ y ∷ power_of y n ∷ []) (v0 ⊗ v1 ⊗ (v2 ⊗ v3)) (v0 ⊗ v2 ⊗ (v1 ⊗ v3)) refl)
    (product_of-same (product_of x y) (product_of (power_of x n) (power_of y n)) (whole (pos 1))
    (whole (pos 1)) p (inverse_powers x y p n))

-- the inverse of a unit
pub unit_of-inverse : (i j : ℕ) → IsSame (product_of (unit_of i j) (unit_inverse_of i j)) (whole (pos 1))
unit_of-inverse i j =
    let t = power_of tangent i in
    let r = power_of root_two j in
    let t' = power_of (record { a = pos 1; b = pos 1; k = 0 }) i in
    let r' = power_of (record { a = pos 0; b = pos 1; k = 1 }) j in
    IsSame-trans (product_of (product_of t r) (product_of t' r'))
    (product_of (product_of t t') (product_of r r')) (whole (pos 1))
    (number_ring (t ∷ r ∷ t' ∷ r' ∷ []) (v0 ⊗ v1 ⊗ (v2 ⊗ v3)) (v0 ⊗ v2 ⊗ (v1 ⊗ v3)) refl)
    (product_of-same (product_of t t') (product_of r r') (whole (pos 1)) (whole (pos 1))
    (inverse_powers tangent (record { a = pos 1; b = pos 1; k = 0 }) (refl, refl) i)
    (inverse_powers root_two (record { a = pos 0; b = pos 1; k = 1 }) (refl, refl) j))

quotient_by_inverse : (u v x z : Number) → IsSame (product_of x u) z → IsSame (product_of u v) (whole (pos 1))
    → IsSame x (product_of z v)
quotient_by_inverse u v x z p q =
    number_ring_from_two (u ∷ v ∷ x ∷ z ∷ []) (v2 ⊗ v0) v3 v1 (v0 ⊗ v1) (con (whole (pos 1))) (⊖ v2) v2
    (v3 ⊗ v1) refl p q

product_by_inverse : (u v x z : Number) → IsSame x (product_of z v) → IsSame (product_of u v) (whole (pos 1))
    → IsSame (product_of x u) z
product_by_inverse u v x z p q =
    number_ring_from_two (u ∷ v ∷ x ∷ z ∷ []) v2 (v3 ⊗ v1) v0 (v0 ⊗ v1) (con (whole (pos 1))) v3
    (v2 ⊗ v0) v3 refl p q

unit_cancel_by : (u v x y : Number) → IsSame (product_of x u) (product_of y u)
    → IsSame (product_of u v) (whole (pos 1)) → IsSame x y
unit_cancel_by u v x y p q =
    number_ring_from_two (u ∷ v ∷ x ∷ y ∷ []) (v2 ⊗ v0) (v3 ⊗ v0) v1 (v0 ⊗ v1) (con (whole (pos 1)))
    (v3 ⊝ v2) v2 v3 refl p q

-- a quotient by a unit is a product by its inverse
pub unit_quotient : (i j : ℕ) (x z : Number)
    → IsSame (product_of x (unit_of i j)) z ↔ IsSame x (product_of z (unit_inverse_of i j))
unit_quotient i j x z = (
  λ p. quotient_by_inverse (unit_of i j) (unit_inverse_of i j) x z p (unit_of-inverse i j),
  λ p. product_by_inverse (unit_of i j) (unit_inverse_of i j) x z p (unit_of-inverse i j),
)

pub unit_cancel : (i j : ℕ) (x y : Number) → IsSame (product_of x (unit_of i j)) (product_of y (unit_of i j))
    → IsSame x y
unit_cancel i j x y p = unit_cancel_by (unit_of i j) (unit_inverse_of i j) x y p (unit_of-inverse i j)

-- ---- canonical triples

-- one canonical triple for each number
pub canonical-same : (x y : Number) → IsCanonical x → IsCanonical y → IsSame x y → x ≡ y
canonical-same x y c d p = λ i. record { a = q.0 i; b = q.1 i; k = e i }
  where
    e : x.k ≡ y.k
    e = let l : x.k ≤ y.k = c y (IsSame-sym x y p) in let m : y.k ≤ x.k = d x p in omega arith

    q : (x.a ≡ y.a) × (x.b ≡ y.b)
    q = aligned-same x y e p
