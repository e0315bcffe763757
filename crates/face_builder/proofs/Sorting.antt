-- A sorted list is determined by what is in it and how often.
use Rattle.std.proofs.Common.{◌≡◌, ℕ, suc, ◌+◌, ◌<◌, Bool, true, false, cond, inl, inr, List, [], ◌∷◌, length, get_or, refl, sym, ap, ap₂, subst, ◌∙◌, arith}
use Rattle.std.specs.Prelude.{⊤}
use Rattle.std.specs.List.{sum_by}
use Rattle.std.specs.List.Sorted.{IsSorted, IsPermutation}
use Rattle.std.specs.Cmp.{IsTotalOrder, IsStrictWeakOrder}
use Rattle.std.specs.Ordering.{is_lt, is_eq, ordering_reverse}
use Rattle.std.specs.declared.cmp.Ordering.{Ordering}
use Rattle.std.specs.declared.cmp.Ordering.TheVariants.{Less, Equal, Greater}
use Rattle.std.proofs.lemmas.Bool.{false≢true, cond_both}
use Rattle.std.proofs.lemmas.Cmp.{tied_itself}
use Rattle.std.proofs.lemmas.List.Sorted.{ranks_by, sum_by-IsPermutation}
use Rattle.std.proofs.lemmas.List.Sums.{sum_by-cons}
use Rattle.line_split.specs.MemberLaws.{Member}
use Rattle.face_builder.specs.Sorted.{sorted_with, sorted_list}

both_not_less : (o r : Ordering) → o ≡ ordering_reverse r → is_lt o ≡ false → is_lt r ≡ false → o ≡ Equal
both_not_less Less r e f g = absurd (false≢true (sym f))
both_not_less Equal r e f g = refl
both_not_less Greater Less e f g = absurd (false≢true (sym g))
both_not_less Greater Equal e f g = e
both_not_less Greater Greater e f g = let h : Greater ≡ Less = e in cc

less_reversed : (o r : Ordering) → o ≡ ordering_reverse r → is_lt o ≡ true → is_lt r ≡ false
less_reversed Less Less e f = let h : Less ≡ Greater = e in cc
less_reversed Less Equal e f = refl
less_reversed Less Greater e f = refl
less_reversed Equal r e f = absurd (false≢true f)
less_reversed Greater r e f = absurd (false≢true f)

one_if : Bool → ℕ
one_if b = cond b 1 0

module _ {X : Type 0} (compare : X → X → Ordering) (total : IsTotalOrder compare) (tied : (x y : X)
    → compare x y ≡ Equal → x ≡ y) where
  -- each element is not less than the one before
  abbrev pub Up : List X → Type 0
  Up [] = ⊤
  Up (x ∷ []) = ⊤
  Up (x ∷ y ∷ ys) = (is_lt (compare y x) ≡ false) × Up (y ∷ ys)

  pub order : IsStrictWeakOrder (λ x y. is_lt (compare x y))
  order = ranks_by total (λ (x : X). x)

  up_from_sorted : (xs : List X) → IsSorted compare xs → Up xs
  up_from_sorted [] s = tt
  up_from_sorted (x ∷ []) s = tt
  up_from_sorted (x ∷ y ∷ ys) s =
      (s 0 x (omega arith) (omega arith), up_from_sorted (y ∷ ys) (λ k d low h. later k d h))
    where
      later : (k : ℕ) (d : X) → k + 1 < length (y ∷ ys)
          → is_lt (compare (get_or (y ∷ ys) (k + 1) d) (get_or (y ∷ ys) k d)) ≡ false
      later k d h =
          let e : suc k + 1 ≡ suc (k + 1) = omega arith in
          subst (λ n. is_lt (compare (get_or (x ∷ y ∷ ys) n d) (get_or (y ∷ ys) k d)) ≡ false) e
          (s (suc k) d (omega arith) (omega arith))

  up_rest : (x : X) (xs : List X) → Up (x ∷ xs) → Up xs
  up_rest x [] u = tt
  up_rest x (y ∷ ys) u = u.1

  -- how often an element that ties with z is there
  count : X → List X → ℕ
  count z [] = 0
  count z (y ∷ ys) = one_if (is_eq (compare z y)) + count z ys

  count_is : (z : X) (xs : List X) → count z xs ≡ sum_by (λ y. one_if (is_eq (compare z y))) xs
  unfolding count
  count_is z [] = refl
  count_is z (y ∷ ys) =
      ap (λ n. one_if (is_eq (compare z y)) + n) (count_is z ys)
      ∙ sym (sum_by-cons (λ y. one_if (is_eq (compare z y))) y ys)

  same_counts : (xs ys : List X) → IsPermutation xs ys → (z : X) → count z ys ≡ count z xs
  same_counts xs ys h z =
      count_is z ys ∙ sum_by-IsPermutation (λ y. one_if (is_eq (compare z y))) xs ys h ∙ sym (count_is z xs)

  unless_less : (z y : X) (o : Ordering) → compare z y ≡ o
      → (compare z y ≡ Less → is_lt (compare z y) ≡ false) → is_lt (compare z y) ≡ false
  unless_less z y Less e less = less e
  unless_less z y Equal e less = ap is_lt e
  unless_less z y Greater e less = ap is_lt e

  -- the first element is not greater than any that is there
  first_is_least : (z y : X) (ys : List X) → Up (y ∷ ys) → 0 < count z (y ∷ ys) → is_lt (compare z y) ≡ false
  unfolding count one_if
  first_is_least z y [] u h =
      unless_less z y (compare z y) refl
      (λ e. absurd (omega (arith, subst (λ (o : Ordering). 0 < cond (is_eq o) 1 0 + 0) e h)))
  first_is_least z y (w ∷ ws) u h =
      unless_less z y (compare z y) refl
      (λ e. order.chain z w y
      (first_is_least z w ws u.1
      (omega (arith, subst (λ (o : Ordering). 0 < cond (is_eq o) 1 0 + count z (w ∷ ws)) e h))) u.0)

  counts_itself : (x : X) (xs : List X) → 0 < count x (x ∷ xs)
  unfolding count one_if
  counts_itself x xs =
      subst (λ (o : Ordering). 0 < cond (is_eq o) 1 0 + count x xs) (sym (tied_itself total x)) (omega arith)

  rest_counts : (x y : X) (xs ys : List X) (z : X) → x ≡ y → count z (x ∷ xs) ≡ count z (y ∷ ys) → count z xs
      ≡ count z ys
  unfolding count one_if
  rest_counts x y xs ys z e h =
      let g : one_if (is_eq (compare z y)) + count z xs ≡ one_if (is_eq (compare z y)) + count z ys =
      subst (λ (t : X). one_if (is_eq (compare z t)) + count z xs
      ≡ one_if (is_eq (compare z y)) + count z ys) e h in
      omega arith

  one_up : (xs ys : List X) → Up xs → Up ys → ((z : X) → count z xs ≡ count z ys) → xs ≡ ys
  unfolding count
  one_up [] [] u v h = refl
  one_up [] (y ∷ ys) u v h = absurd (omega (arith, h y, counts_itself y ys))
  one_up (x ∷ xs) [] u v h = absurd (omega (arith, h x, counts_itself x xs))
  one_up (x ∷ xs) (y ∷ ys) u v h =
      let a = first_is_least x y ys v (subst (λ n. 0 < n) (h x) (counts_itself x xs)) in
      let b = first_is_least y x xs u (subst (λ n. 0 < n) (sym (h y)) (counts_itself y ys)) in
      let e = tied x y (both_not_less (compare x y) (compare y x) (total.antisymm x y) a b) in
      ap₂ ◌∷◌ e (one_up xs ys (up_rest x xs u) (up_rest y ys v) (λ z. rest_counts x y xs ys z e (h z)))

  -- ---- insertion

  NotBelow : X → List X → Type 0
  NotBelow y [] = ⊤
  NotBelow y (w ∷ ws) = is_lt (compare w y) ≡ false

  up_first : (y : X) (ws : List X) → NotBelow y ws → Up ws → Up (y ∷ ws)
  unfolding NotBelow
  up_first y [] b u = tt
  up_first y (w ∷ ws) b u = (b, u)

  first_not_below : (y : X) (ws : List X) → Up (y ∷ ws) → NotBelow y ws
  unfolding NotBelow
  first_not_below y [] u = tt
  first_not_below y (w ∷ ws) u = u.0

  with_not_below : (y x : X) (ws : List X) → NotBelow y ws → is_lt (compare x y) ≡ false
      → NotBelow y (sorted_with compare x ws)
  unfolding NotBelow
  with_not_below y x [] b h = h
  with_not_below y x (w ∷ ws) b h =
      cond_both (is_lt (compare w x)) (w ∷ sorted_with compare x ws) (x ∷ w ∷ ws) (NotBelow y) (λ e. b)
      (λ e. h)

  with_up : (x : X) (ws : List X) → Up ws → Up (sorted_with compare x ws)
  unfolding NotBelow
  with_up x [] u = tt
  with_up x (w ∷ ws) u =
      cond_both (is_lt (compare w x)) (w ∷ sorted_with compare x ws) (x ∷ w ∷ ws) Up
      (λ e. up_first w (sorted_with compare x ws)
      (with_not_below w x ws (first_not_below w ws u)
      (less_reversed (compare w x) (compare x w) (total.antisymm w x) e)) (with_up x ws (up_rest w ws u)))
      (λ e. (e, u))

  count_with : (z x : X) (xs : List X) → count z (sorted_with compare x xs) ≡ count z (x ∷ xs)
  unfolding count
  count_with z x [] = refl
  count_with z x (y ∷ ys) =
      let rest = count_with z x ys in
      cond_both (is_lt (compare y x)) (y ∷ sorted_with compare x ys) (x ∷ y ∷ ys) (λ ws. count z ws
      ≡ count z (x ∷ y ∷ ys))
      (λ e. omega (arith, rest)) (λ e. refl)

  pub in_order_up : (xs : List X) → Up (sorted_list compare xs)
  unfolding sorted_list
  in_order_up [] = tt
  in_order_up (x ∷ xs) = with_up x (sorted_list compare xs) (in_order_up xs)

  count_in_order : (z : X) (xs : List X) → count z (sorted_list compare xs) ≡ count z xs
  unfolding count sorted_list
  count_in_order z [] = refl
  count_in_order z (x ∷ xs) = count_with z x (sorted_list compare xs)
      ∙ ap (λ n. one_if (is_eq (compare z x)) + n) (count_in_order z xs)

  -- what a sort gives
  pub sorted_is : (xs ys : List X) → IsPermutation xs ys → IsSorted compare ys → ys ≡ sorted_list compare xs
  sorted_is xs ys moved sorted =
      one_up ys (sorted_list compare xs) (up_from_sorted ys sorted) (in_order_up xs)
      (λ z. same_counts xs ys moved z ∙ sym (count_in_order z xs))

  -- ---- what is in it

  pub with_member : (x : X) (ws : List X) (z : X) → Member (sorted_with compare x ws) z → Member (x ∷ ws) z
  with_member x [] z = λ m. m
  with_member x (w ∷ ws) z =
      cond_both (is_lt (compare w x)) (w ∷ sorted_with compare x ws) (x ∷ w ∷ ws) (λ zs. Member zs z
      → Member (x ∷ w ∷ ws) z)
      (λ e m.
      elim m [
        | inl at ↦ inr (inl at)
        | inr n ↦ (elim (with_member x ws z n) [ inl at ↦ inl at | inr k ↦ inr (inr k) ])
      ])
      (λ e m. m)

  member_with : (x : X) (ws : List X) (z : X) → Member (x ∷ ws) z → Member (sorted_with compare x ws) z
  member_with x [] z m = m
  member_with x (w ∷ ws) z m =
      cond_both (is_lt (compare w x)) (w ∷ sorted_with compare x ws) (x ∷ w ∷ ws) (λ zs. Member zs z)
      (λ e.
      elim m [
        | inl at ↦ inr (member_with x ws z (inl at))
        | inr n ↦ (elim n [ inl at ↦ inl at | inr k ↦ inr (member_with x ws z (inr k)) ])
      ])
      (λ e. m)

  pub in_order_member : (xs : List X) (z : X) → Member (sorted_list compare xs) z → Member xs z
  unfolding sorted_list
  in_order_member [] z m = m
  in_order_member (x ∷ xs) z m =
      elim (with_member x (sorted_list compare xs) z m)
      [ inl at ↦ inl at | inr n ↦ inr (in_order_member xs z n) ]

  pub member_in_order : (xs : List X) (z : X) → Member xs z → Member (sorted_list compare xs) z
  unfolding sorted_list
  member_in_order [] z m = m
  member_in_order (x ∷ xs) z m =
      member_with x (sorted_list compare xs) z
      (elim m [ inl at ↦ inl at | inr n ↦ inr (member_in_order xs z n) ])
