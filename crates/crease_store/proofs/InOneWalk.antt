-- Pieces put into their places in one walk.
use Rattle.std.proofs.Common.{◌≡◌, ◌+◌, true, false, not, ◌⊎◌, inl, inr, suc, List, [], ◌∷◌, ◌++◌, get_or, refl, sym, ap, subst, ◌∙◌, arith}
use denote.Param.Members.{Mut}
use denote.Ref.{Bor}
use Rattle.std.specs.Prelude.{Contains, IfOk, Ok, Err}
use Rattle.std.specs.declared.result.Result.{Result}
use Rattle.std.specs.Fn.{Called, ComputesKey}
use Rattle.std.specs.Ordering.{is_lt, is_eq}
use Rattle.std.specs.List.Sorted.{IsPermutation, IsSortedBy}
use Rattle.std.specs.declared.cmp.Ordering.{Ordering}
use Rattle.std.specs.declared.cmp.Ordering.TheVariants.{Less, Equal, Greater}
use Rattle.std.proofs.lemmas.Bool.{and_parts, and_from, false≢true, not-true, not_from_false}
use Rattle.std.proofs.lemmas.Fn.{always_returns_same}
use Rattle.std.proofs.lemmas.List.Sorted.{IsPermutation-sym, Contains-permutation}
use Rattle.plane_geometry.specs.declared.Segment.{Segment}
use Rattle.plane_geometry.specs.Order.{compare_segments, is_before}
use Rattle.plane_geometry.specs.OrderLaws.{before_trans, before_turned, tied_segments}
use Rattle.crease_model.specs.declared.Piece.{Piece}
use Rattle.crease_model.specs.Rules.{is_ascending, segments_of}
use Rattle.line_split.specs.MemberLaws.{Member, member, contained}
use Rattle.crease_store.specs.InOrder.{segment_at, with_all_in_order, begins_on, never_descends, HaveOneOnEach, IsPutBetween}
use Rattle.crease_store.proofs.Ascending.{one_ascending}
use Rattle.crease_store.proofs.InOrderLaws.{placed_ascends, placed_all_ascends, placed_all_either, placed_all_has, placed_twice, put_between, left_ascends}

-- ---- lists that don't descend

pub never_descends_rest : (p : Piece) (ps : List Piece) → never_descends (p ∷ ps) ≡ true → never_descends ps ≡ true
never_descends_rest p [] up = refl
never_descends_rest p (q ∷ qs) up = (and_parts (not (is_before q.segment p.segment)) (never_descends (q ∷ qs)) up).1

never_descends_next : (p q : Piece) (qs : List Piece) → never_descends (p ∷ q ∷ qs) ≡ true → is_before q.segment p.segment ≡ false
never_descends_next p q qs up = not-true _ (and_parts (not (is_before q.segment p.segment)) (never_descends (q ∷ qs)) up).0

by_cases : (q r : Segment) → is_before r q ≡ false → (is_eq (compare_segments r q) ≡ true) ⊎ (is_before q r ≡ true)
by_cases q r e = go (compare_segments r q) refl
  where
    go : (o : Ordering) → compare_segments r q ≡ o → (is_eq (compare_segments r q) ≡ true) ⊎ (is_before q r ≡ true)
    go Less f = absurd (false≢true (sym e ∙ ap is_lt f))
    go Equal f = inl (ap is_eq f)
    go Greater f = inr (before_turned r q f)

tie_is : (s u : Segment) → is_eq (compare_segments s u) ≡ true → s ≡ u
tie_is s u e = go (compare_segments s u) refl
  where
    go : (o : Ordering) → compare_segments s u ≡ o → s ≡ u
    go Less f = absurd (false≢true (sym (ap is_eq f) ∙ e))
    go Equal f = tied_segments s u f
    go Greater f = absurd (false≢true (sym (ap is_eq f) ∙ e))

-- what doesn't stand before one that stands behind q stands behind q
before_through : (q r z : Segment) → is_before q r ≡ true → is_before z r ≡ false → is_before q z ≡ true
before_through q r z before e =
    elim (by_cases r z e) [
      | inl tie ↦ subst (λ (t : Segment). is_before q t ≡ true) (sym (tie_is z r tie)) before
      | inr after ↦ before_trans q r z before after
    ]

behind_all : (q r : Piece) (rs : List Piece) → is_before q.segment r.segment ≡ true → never_descends (r ∷ rs) ≡ true → (z : Piece) → Member (r ∷ rs) z → is_before q.segment z.segment ≡ true
behind_all q r rs before up z (inl e) = subst (λ (t : Piece). is_before q.segment t.segment ≡ true) e before
behind_all q r [] before up z (inr m) = absurd m
behind_all q r (t ∷ ts) before up z (inr m) =
    behind_all q t ts (before_through q.segment r.segment t.segment before (never_descends_next r t ts up)) (never_descends_rest r (t ∷ ts) up) z m

-- what comes after one that is on no segment of theirs stands behind it
later_behind : (q : Piece) (qs : List Piece) → never_descends (q ∷ qs) ≡ true → begins_on qs q ≡ false → (z : Piece) → Member qs z → is_before q.segment z.segment ≡ true
later_behind q [] up apart z m = absurd m
later_behind q (r ∷ rs) up apart z m =
    elim (by_cases q.segment r.segment (never_descends_next q r rs up)) [
      | inl tie ↦ absurd (false≢true (sym apart ∙ tie))
      | inr before ↦ behind_all q r rs before (never_descends_rest q (r ∷ rs) up) z m
    ]

-- ---- one step of the walk

pub if_ok_then : {T F : Type 0} (result : Result T F) (P Q : T → Type 0) → ((t : T) → P t → Q t) → IfOk result P → IfOk result Q
if_ok_then (Ok t) P Q then p = then t p
if_ok_then (Err e) P Q then p = p

pub gives_way : (xs : List Piece) (q : Piece) (qs : List Piece) → begins_on qs q ≡ true → with_all_in_order segment_at xs qs ≡ with_all_in_order segment_at xs (q ∷ qs)
gives_way xs q [] e = absurd (false≢true e)
gives_way xs q (r ∷ rs) e = ap (λ (l : List Piece). with_all_in_order segment_at l rs) (sym (placed_twice segment_at xs q r (sym (tie_is r.segment q.segment e))))

module _ (others pieces : List Piece) (q : Piece) (all left qs : List Piece) (put : IsPutBetween others pieces q all left) (up : is_ascending (segments_of pieces) ≡ true) where
  pub left_up : is_ascending (segments_of left) ≡ true
  left_up = left_ascends segment_at put.front q left (subst (λ (l : List Piece). is_ascending (segments_of l) ≡ true) put.split (placed_ascends segment_at pieces q up))

  pub walked_on : never_descends (q ∷ qs) ≡ true → begins_on qs q ≡ false → all ++ with_all_in_order segment_at left qs ≡ others ++ with_all_in_order segment_at pieces (q ∷ qs)
  walked_on order apart =
      ap (λ (l : List Piece). l ++ with_all_in_order segment_at left qs) put.appended
      ∙ regrouped others put.front (with_all_in_order segment_at left qs)
      ∙ ap (λ (l : List Piece). others ++ l) (sym (put_between segment_at pieces put.front q left qs up put.split (later_behind q qs order apart)))
    where
      regrouped : (xs ys zs : List Piece) → (xs ++ ys ++ q ∷ []) ++ zs ≡ xs ++ (ys ++ q ∷ zs)
      regrouped [] [] zs = refl
      regrouped [] (y ∷ ys) zs = ap (λ (l : List Piece). y ∷ l) (regrouped [] ys zs)
      regrouped (x ∷ xs) ys zs = ap (λ (l : List Piece). x ∷ l) (regrouped xs ys zs)

-- ---- sorted first

pub sorted_the_same : (pieces news sorted : List Piece) → is_ascending (segments_of pieces) ≡ true → HaveOneOnEach pieces news → IsPermutation news sorted
    → with_all_in_order segment_at pieces sorted ≡ with_all_in_order segment_at pieces news
sorted_the_same pieces news sorted up one moved =
    one_ascending segment_at (with_all_in_order segment_at pieces sorted) (with_all_in_order segment_at pieces news)
    (placed_all_ascends segment_at pieces sorted up) (placed_all_ascends segment_at pieces news up) to from
  where
    back : (z : Piece) → Member sorted z → Member news z
    back z m = member news z (Contains-permutation sorted news z (IsPermutation-sym news sorted moved) (contained sorted z m))

    forth : (z : Piece) → Member news z → Member sorted z
    forth z m = member sorted z (Contains-permutation news sorted z moved (contained news z m))

    of : (z : Piece) → Member news z ⊎ Member pieces z → Contains news z ⊎ Contains pieces z
    of z (inl m) = inl (contained news z m)
    of z (inr m) = inr (contained pieces z m)

    from_sorted : (z : Piece) → Member sorted z ⊎ Member pieces z → Member news z ⊎ Member pieces z
    from_sorted z (inl m) = inl (back z m)
    from_sorted z (inr m) = inr m

    to_sorted : (z : Piece) → Member news z ⊎ Member pieces z → Member sorted z ⊎ Member pieces z
    to_sorted z (inl m) = inl (forth z m)
    to_sorted z (inr m) = inr m

    to : (z : Piece) → Member (with_all_in_order segment_at pieces sorted) z → Member (with_all_in_order segment_at pieces news) z
    to z m =
        let there = from_sorted z (placed_all_either segment_at pieces sorted z m) in
        placed_all_has segment_at pieces news z (λ w n same. one w z (of w n) (of z there) same) there

    from : (z : Piece) → Member (with_all_in_order segment_at pieces news) z → Member (with_all_in_order segment_at pieces sorted) z
    from z m =
        let there = placed_all_either segment_at pieces news z m in
        placed_all_has segment_at pieces sorted z (λ w n same. one w z (of w (from_sorted w n)) (of z there) same) (to_sorted z there)

-- what a sort by segments ensures
sorted_order : (xs : List Piece) → IsSortedBy (λ p q. is_before p.segment q.segment) xs → never_descends xs ≡ true
sorted_order [] sorted = refl
sorted_order (x ∷ []) sorted = refl
sorted_order (x ∷ y ∷ ys) sorted =
    and_from (not (is_before y.segment x.segment)) (never_descends (y ∷ ys)) (not_from_false _ (sorted 0 x (omega arith) (omega arith))) (sorted_order (y ∷ ys) (λ k d low high.
    let next : suc k + 1 ≡ suc (k + 1) = omega arith in
    subst (λ n. is_before (get_or (x ∷ y ∷ ys) n d).segment (get_or (y ∷ ys) k d).segment ≡ false) next (sorted (suc k) d (omega arith) (omega arith))))

pub order_by_key : {F : Type 0} {g : Mut F (Bor Piece × Unit {0}) Segment} {f : F} (xs : List Piece)
    → ((key : Piece → Segment) → ComputesKey g key f → IsSortedBy (λ p q. is_before (key p) (key q)) xs)
    → ((a : Bor Piece × Unit {0}) (r : Segment) (f' : F) → Called g f a r f' → (r ≡ a.0.now.segment) × (f' ≡ f))
    → never_descends xs ≡ true
order_by_key {g = g} {f = f} xs sorted h = sorted_order xs (sorted (λ p. p.segment) (always_returns_same g (λ a r. r ≡ a.0.now.segment) f h))
