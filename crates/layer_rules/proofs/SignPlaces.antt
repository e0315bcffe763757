-- The signs that a list gives pairs, by the places of the pairs.
use Rattle.std.proofs.Common.{◌≡◌, ℕ, zero, suc, ◌<◌, inl, inr, Bool, true, false, cond, not, List, [], ◌∷◌, length, Option, Some, None, refl, sym, ap, ap₂, subst, ◌∙◌, arith}
use Rattle.std.specs.Prelude.{◌==◌}
use Rattle.std.specs.List.{AllPairs, Contains, slice_get, slice_index_or}
use Rattle.std.specs.Option.{option_map}
use Rattle.std.proofs.lemmas.Bool.{and_parts, lt-ltb, le-ltb, eqb-true}
use Rattle.std.proofs.lemmas.Bool.Decides.{nat_tests}
use Rattle.std.proofs.lemmas.List.Elements.{All-contains}
use Rattle.sign_rules.specs.declared.sign.Sign.{Sign}
use Rattle.sign_rules.specs.Signs.{is_over}
use Rattle.layer_rules.specs.declared.face_pairs.FacePair.{FacePair}
use Rattle.layer_rules.specs.FacePairs.{Precedes}
use Rattle.layer_rules.specs.Above.{is_pair_of, sign_of_pair, above}
use Rattle.layer_rules.proofs.Ordered.{here, there, before_rest, rest_ascends}

abbrev pub pair_of : ℕ → ℕ → FacePair
pair_of i j = record { i = i; j = j }

module _ {X : Type 0} where
  pub some_is : (x y : X) → Some x ≡ Some y → x ≡ y
  some_is x y e = cc

  pub none_is_not_some : (x : X) → None ≡ Some x → ⊥
  none_is_not_some x e = cc

  pub get_contains : (xs : List X) (n : ℕ) (x : X) → slice_get xs n ≡ Some x → Contains xs x
  get_contains [] n x e = absurd (none_is_not_some x e)
  get_contains (y ∷ ys) zero x e = subst (λ (t : X). Contains (y ∷ ys) t) (some_is y x e) (here y ys)
  get_contains (y ∷ ys) (suc n) x e = there y ys x (get_contains ys n x e)

  pub get_below : (xs : List X) (n : ℕ) (x : X) → slice_get xs n ≡ Some x → n < length xs
  get_below [] n x e = absurd (none_is_not_some x e)
  get_below (y ∷ ys) zero x e = omega arith
  get_below (y ∷ ys) (suc n) x e = let h = get_below ys n x e in omega arith

  pub get_reads : (xs : List X) (n : ℕ) (x d : X) → slice_get xs n ≡ Some x → slice_index_or xs n d ≡ x
  get_reads [] n x d e = absurd (none_is_not_some x e)
  get_reads (y ∷ ys) zero x d e = some_is y x e
  get_reads (y ∷ ys) (suc n) x d e = get_reads ys n x d e

  pub read_get : (xs : List X) (n : ℕ) (d : X) → n < length xs → slice_get xs n ≡ Some (slice_index_or xs n d)
  read_get [] n d below = absurd (omega arith)
  read_get (y ∷ ys) zero d below = refl
  read_get (y ∷ ys) (suc n) d below = read_get ys n d (omega arith)

is_pair : (i j : ℕ) → is_pair_of i j (pair_of i j) ≡ true
is_pair i j = grind (arith, nat_tests)

is_not_pair : (i j : ℕ) (q : FacePair) → Precedes q (pair_of i j) → is_pair_of i j q ≡ false
is_not_pair i j q before =
    elim before [ inl less ↦ grind (arith, nat_tests, less) | inr same ↦ grind (arith, nat_tests, same.1) ]

pair_is : (i j : ℕ) (q : FacePair) → is_pair_of i j q ≡ true → q ≡ pair_of i j
pair_is i j q e =
    let parts = and_parts (q.i == i) (q.j == j) e in
    ap₂ pair_of (eqb-true q.i i parts.0) (eqb-true q.j j parts.1)

-- a pair that stands in a place has the sign of that place
pub sign_at : (pairs : List FacePair) (signs : List Sign) (n i j : ℕ) → AllPairs Precedes pairs
    → slice_get pairs n ≡ Some (pair_of i j) → sign_of_pair pairs signs i j ≡ slice_get signs n
sign_at [] signs n i j up e = absurd (none_is_not_some (pair_of i j) e)
sign_at (q ∷ qs) [] n i j up e = refl
sign_at (q ∷ qs) (s ∷ ss) zero i j up e =
    let same : q ≡ pair_of i j = some_is q (pair_of i j) e in
    let test : is_pair_of i j q ≡ true = ap (is_pair_of i j) same ∙ is_pair i j in
    ap (λ (b : Bool). cond b (Some s) (sign_of_pair qs ss i j)) test
sign_at (q ∷ qs) (s ∷ ss) (suc n) i j up e =
    let before = All-contains (Precedes q) qs (pair_of i j) (before_rest Precedes q qs up)
    (get_contains qs n (pair_of i j) e) in
    ap (λ (b : Bool). cond b (Some s) (sign_of_pair qs ss i j)) (is_not_pair i j q before)
    ∙ sign_at qs ss n i j (rest_ascends Precedes q qs up) e

pub record IsPlaced (pairs : List FacePair) (signs : List Sign) (i j : ℕ) (s : Sign) : Type 0 where
  pub place : ℕ
  pub pair : slice_get pairs place ≡ Some (pair_of i j)
  pub sign : slice_get signs place ≡ Some s

placed_by : (q : FacePair) (qs : List FacePair) (t : Sign) (ts : List Sign) (i j : ℕ) (s : Sign) (b : Bool)
    → is_pair_of i j q ≡ b → cond b (Some t) (sign_of_pair qs ts i j) ≡ Some s
    → (sign_of_pair qs ts i j ≡ Some s → IsPlaced qs ts i j s) → IsPlaced (q ∷ qs) (t ∷ ts) i j s
placed_by q qs t ts i j s true test e later = record {
  place = 0;
  pair = ap Some (pair_is i j q test);
  sign = e;
}
placed_by q qs t ts i j s false test e later =
    let h = later e in
    record { place = suc h.place; pair = h.pair; sign = h.sign }

-- a pair that has a sign stands in a place
pub placed : (pairs : List FacePair) (signs : List Sign) (i j : ℕ) (s : Sign)
    → sign_of_pair pairs signs i j ≡ Some s
    → IsPlaced pairs signs i j s
placed [] signs i j s e = absurd (none_is_not_some s e)
placed (q ∷ qs) [] i j s e = absurd (none_is_not_some s e)
placed (q ∷ qs) (t ∷ ts) i j s e =
    placed_by q qs t ts i j s (is_pair_of i j q) refl e (λ later. placed qs ts i j s later)

-- ---- which face is above

-- the lesser face is above the greater where the sign is Over
pub above_is : (pairs : List FacePair) (signs : List Sign) (i j : ℕ) → i < j
    → above pairs signs i j ≡ option_map is_over (sign_of_pair pairs signs i j)
above_is pairs signs i j less =
    ap (λ (b : Bool). cond b (option_map is_over (sign_of_pair pairs signs i j))
    (option_map (λ sign. not (is_over sign)) (sign_of_pair pairs signs j i))) (lt-ltb i j less)

pub below_is : (pairs : List FacePair) (signs : List Sign) (i j : ℕ) → i < j
    → above pairs signs j i ≡ option_map (λ sign. not (is_over sign)) (sign_of_pair pairs signs i j)
below_is pairs signs i j less =
    ap (λ (b : Bool). cond b (option_map is_over (sign_of_pair pairs signs j i))
    (option_map (λ sign. not (is_over sign)) (sign_of_pair pairs signs i j))) (le-ltb j i (omega arith))

mapped : {A B : Type 0} (f : A → B) (o : Option A) (b : B) → option_map f o ≡ Some b
    → (a : A) × (o ≡ Some a) × (f a ≡ b)
mapped f None b e = absurd (none_is_not_some b e)
mapped f (Some a) b e = (a, refl, some_is (f a) b e)

-- where the list says whether i is above j: the pair's place, and its sign
pub above_placed : (pairs : List FacePair) (signs : List Sign) (i j : ℕ) (x : Bool) → i < j
    → above pairs signs i j ≡ Some x → (s : Sign) × IsPlaced pairs signs i j s × (is_over s ≡ x)
above_placed pairs signs i j x less e =
    let h = mapped is_over (sign_of_pair pairs signs i j) x (sym (above_is pairs signs i j less) ∙ e) in
    (h.0, placed pairs signs i j h.0 h.1, h.2)

pub below_placed : (pairs : List FacePair) (signs : List Sign) (i j : ℕ) (x : Bool) → i < j
    → above pairs signs j i ≡ Some x → (s : Sign) × IsPlaced pairs signs i j s × (not (is_over s) ≡ x)
below_placed pairs signs i j x less e =
    let h = mapped (λ sign. not (is_over sign)) (sign_of_pair pairs signs i j) x
    (sym (below_is pairs signs i j less) ∙ e) in
    (h.0, placed pairs signs i j h.0 h.1, h.2)

-- the other way: what the list says of a pair in a place
pub above_at : (pairs : List FacePair) (signs : List Sign) (n i j : ℕ) (s : Sign)
    → AllPairs Precedes pairs → i < j
    → slice_get pairs n ≡ Some (pair_of i j) → slice_get signs n ≡ Some s
    → above pairs signs i j ≡ Some (is_over s)
above_at pairs signs n i j s up less e f =
    above_is pairs signs i j less ∙ ap (option_map is_over) (sign_at pairs signs n i j up e ∙ f)

pub below_at : (pairs : List FacePair) (signs : List Sign) (n i j : ℕ) (s : Sign)
    → AllPairs Precedes pairs → i < j
    → slice_get pairs n ≡ Some (pair_of i j) → slice_get signs n ≡ Some s
    → above pairs signs j i ≡ Some (not (is_over s))
below_at pairs signs n i j s up less e f =
    below_is pairs signs i j less
    ∙ ap (option_map (λ sign. not (is_over sign))) (sign_at pairs signs n i j up e ∙ f)
