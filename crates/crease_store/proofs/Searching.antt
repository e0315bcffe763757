-- The only piece at a point is found where the pieces that come before end.
use Rattle.std.proofs.Common.{◌≡◌, ℕ, zero, suc, ◌+◌, ◌<◌, ◌≤◌, Bool, true, false, not, ◌&&◌, cond, inl, inr, List, [], ◌∷◌, length, get_or, drop, refl, sym, ap, ap₂, subst, ◌∙◌, arith}
use Rattle.std.specs.Prelude.{None, Some, filter}
use Rattle.std.specs.Fn.{Called, ComputesKey}
use Rattle.std.specs.List.Sorted.{IsPermutation, IsPartitionedBy, IsPartitionPoint, IsSortedBy}
use Rattle.std.proofs.lemmas.Fn.{always_returns_same}
use denote.Param.Members.{Mut}
use denote.Ref.{Bor}
use Rattle.std.proofs.lemmas.Bool.{and_parts, and_from, true≢false, false≢true, not-true, not_from_false, false_from_ne_true}
use Rattle.std.proofs.lemmas.List.Sums.{length-filter}
use Rattle.std.proofs.lemmas.List.Sorted.{IsPermutation-sym, Contains-permutation, sum_by-IsPermutation}
use Rattle.surd_number.specs.declared.Sgn.{Sgn}
use Rattle.surd_number.specs.declared.Sgn.TheVariants.{Neg, Zero, Pos}
use Rattle.surd_number.specs.Number.{opposite_sign}
use Rattle.plane_geometry.specs.declared.Point.{Point}
use Rattle.plane_geometry.specs.Position.{position_of, is_same_position}
use Rattle.plane_geometry.specs.Direction.{is_positive, is_negative, is_zero}
use Rattle.plane_geometry.specs.SideLaws.{order_of, order_turned}
use Rattle.plane_geometry.specs.StretchLaws.{before_is, same_is, positive_is, then_before}
use Rattle.crease_model.specs.declared.Piece.{Piece}
use Rattle.crease_model.specs.Rules.{is_ascending, segments_of}
use Rattle.crease_store.specs.Merged.{ends_at, single, only_at}
use Rattle.crease_store.specs.Rising.{beginning_of, arrival_of, comes_before, is_sorted_by, first_alone, AreSorted}
use Rattle.line_split.specs.MemberLaws.{Member, member, contained, filter_member, member_filter}
use Rattle.crease_store.proofs.Ascending.{first_before, before_begins, ascending_rest}

-- ---- the order of points

not_after_parts : (p q : Point) → comes_before q p ≡ false → is_negative (order_of (position_of p) (position_of q)) ≡ false
not_after_parts p q e = go (order_of (position_of p) (position_of q)) refl
  where
    go : (t : Sgn) → order_of (position_of p) (position_of q) ≡ t → is_negative t ≡ false
    go Neg f = absurd (true≢false (sym (before_is (position_of q) (position_of p) ∙ ap is_positive (order_turned (position_of p) (position_of q) ∙ ap opposite_sign f)) ∙ e))
    go Zero f = refl
    go Pos f = refl

-- what is not after a point that comes before v comes before v
before_through : (p q v : Point) → comes_before q p ≡ false → comes_before q v ≡ true → comes_before p v ≡ true
before_through p q v e f =
    before_is (position_of p) (position_of v)
    ∙ ap is_positive (then_before (position_of p) (position_of q) (position_of v) (not_after_parts p q e) (positive_is _ (sym (before_is (position_of q) (position_of v)) ∙ f)))

not_after_chain : (p q r : Point) → comes_before q p ≡ false → comes_before r q ≡ false → comes_before r p ≡ false
not_after_chain p q r e f = false_from_ne_true (comes_before r p) (λ h. true≢false (sym (before_through q r p f h) ∙ e))

before_not_same : (p v : Point) → comes_before p v ≡ true → is_same_position (position_of p) (position_of v) ≡ false
before_not_same p v e = same_is (position_of p) (position_of v) ∙ ap is_zero (positive_is _ (sym (before_is (position_of p) (position_of v)) ∙ e))

-- what is not the point v and doesn't come before it comes after it, and so does what is not before that
later_not_same : (p q v : Point) → comes_before p v ≡ false → is_same_position (position_of p) (position_of v) ≡ false → comes_before q p ≡ false → is_same_position (position_of q) (position_of v) ≡ false
later_not_same p q v e f g = go (order_of (position_of p) (position_of v)) refl
  where
    after : order_of (position_of p) (position_of v) ≡ Neg → comes_before v p ≡ true
    after h = before_is (position_of v) (position_of p) ∙ ap is_positive (order_turned (position_of p) (position_of v) ∙ ap opposite_sign h)

    go : (t : Sgn) → order_of (position_of p) (position_of v) ≡ t → is_same_position (position_of q) (position_of v) ≡ false
    go Neg h = false_from_ne_true (is_same_position (position_of q) (position_of v)) (λ k.
        let same : order_of (position_of q) (position_of v) ≡ Zero = zero_at (order_of (position_of q) (position_of v)) (sym (same_is (position_of q) (position_of v)) ∙ k) in
        let back : comes_before v q ≡ true = before_after (after h) in
        let turned : comes_before v q ≡ false = before_is (position_of v) (position_of q) ∙ ap is_positive (order_turned (position_of q) (position_of v) ∙ ap opposite_sign same) in
        true≢false (sym back ∙ turned))
      where
        zero_at : (t : Sgn) → is_zero t ≡ true → t ≡ Zero
        zero_at Neg z = absurd (false≢true z)
        zero_at Zero z = refl
        zero_at Pos z = absurd (false≢true z)

        before_after : comes_before v p ≡ true → comes_before v q ≡ true
        before_after z = not_before_back (comes_before v q) refl
          where
            not_before_back : (b : Bool) → comes_before v q ≡ b → comes_before v q ≡ true
            not_before_back true x = x
            not_before_back false x = absurd (true≢false (sym z ∙ not_after_chain p q v g x))
    go Zero h = absurd (true≢false (sym (same_is (position_of p) (position_of v) ∙ ap is_zero h) ∙ f))
    go Pos h = absurd (true≢false (sym (before_is (position_of p) (position_of v) ∙ ap is_positive h) ∙ e))

-- ---- rising lists

abbrev kept : Bool → Bool → Piece → Piece → List Piece → List Piece
kept a b x y rest = cond a (x ∷ cond b (y ∷ rest) rest) (cond b (y ∷ rest) rest)

module _ (at : Piece → Point) where
  rising_rest : (p : Piece) (ps : List Piece) → is_sorted_by at (p ∷ ps) ≡ true → is_sorted_by at ps ≡ true
  rising_rest p [] up = refl
  rising_rest p (q ∷ qs) up = (and_parts (not (comes_before (at q) (at p))) (is_sorted_by at (q ∷ qs)) up).1

  rising_next : (p q : Piece) (qs : List Piece) → is_sorted_by at (p ∷ q ∷ qs) ≡ true → comes_before (at q) (at p) ≡ false
  rising_next p q qs up = not-true (comes_before (at q) (at p)) (and_parts (not (comes_before (at q) (at p))) (is_sorted_by at (q ∷ qs)) up).0

  -- no element comes before the first one
  none_before : (p : Piece) (ps : List Piece) → is_sorted_by at (p ∷ ps) ≡ true → (k : ℕ) (d : Piece) → k < length ps → comes_before (at (get_or ps k d)) (at p) ≡ false
  none_before p [] up k d few = absurd (omega arith)
  none_before p (q ∷ qs) up zero d few = rising_next p q qs up
  none_before p (q ∷ qs) up (suc k) d few = not_after_chain (at p) (at q) (at (get_or qs k d)) (rising_next p q qs up) (none_before q qs (rising_rest p (q ∷ qs) up) k d (omega arith))

  pub rising_parts : (v : Point) (xs : List Piece) → is_sorted_by at xs ≡ true → IsPartitionedBy (λ p. comes_before (at p) v) xs
  rising_parts v [] up i j d low high e = absurd (omega arith)
  rising_parts v (x ∷ xs) up zero zero d low high e = e
  rising_parts v (x ∷ xs) up zero (suc j) d low high e = before_through (at x) (at (get_or xs j d)) v (none_before x xs up j d (omega arith)) e
  rising_parts v (x ∷ xs) up (suc i) zero d low high e = absurd (omega arith)
  rising_parts v (x ∷ xs) up (suc i) (suc j) d low high e = rising_parts v xs (rising_rest x xs up) i j d (omega arith) (omega arith) e

  -- those that don't come after v stand in front
  pub within_parts : (v : Point) (xs : List Piece) → is_sorted_by at xs ≡ true → IsPartitionedBy (λ p. not (comes_before v (at p))) xs
  within_parts v [] up i j d low high e = absurd (omega arith)
  within_parts v (x ∷ xs) up zero zero d low high e = e
  within_parts v (x ∷ xs) up zero (suc j) d low high e =
      not_from_false _ (not_after_chain (at x) (at (get_or xs j d)) v (none_before x xs up j d (omega arith)) (not-true _ e))
  within_parts v (x ∷ xs) up (suc i) zero d low high e = absurd (omega arith)
  within_parts v (x ∷ xs) up (suc i) (suc j) d low high e = within_parts v xs (rising_rest x xs up) i j d (omega arith) (omega arith) e

  -- nothing of a list is at v where its first piece comes after it
  none_at : (v : Point) (x : Piece) (xs : List Piece) → is_sorted_by at (x ∷ xs) ≡ true → comes_before (at x) v ≡ false → ends_at at v x ≡ false → filter (ends_at at v) xs ≡ []
  none_at v x [] up e f = refl
  none_at v x (y ∷ ys) up e f =
      let next = rising_next x y ys up in
      let not_at : ends_at at v y ≡ false = later_not_same (at x) (at y) v e f next in
      let not_before : comes_before (at y) v ≡ false = false_from_ne_true (comes_before (at y) v) (λ h. true≢false (sym (before_through (at x) (at y) v next h) ∙ e)) in
      ap (λ b. cond b (y ∷ filter (ends_at at v) ys) (filter (ends_at at v) ys)) not_at ∙ none_at v y ys (rising_rest x (y ∷ ys) up) not_before not_at

  single_first : (v : Point) (xs : List Piece) → is_sorted_by at xs ≡ true → ((d : Piece) → 0 < length xs → comes_before (at (get_or xs 0 d)) v ≡ false) → single (filter (ends_at at v) xs) ≡ first_alone (ends_at at v) xs
  single_first v [] up start = refl
  single_first v (x ∷ []) up start = elim (ends_at at v x) as (λ b. single (cond b (x ∷ []) []) ≡ cond (b && not false) (Some x) None) [ true ↦ refl | false ↦ refl ]
  single_first v (x ∷ y ∷ ys) up start = go (ends_at at v x) (ends_at at v y) refl refl
    where
      first : comes_before (at x) v ≡ false
      first = start x (omega arith)

      second : comes_before (at y) v ≡ false
      second = false_from_ne_true (comes_before (at y) v) (λ h. true≢false (sym (before_through (at x) (at y) v (rising_next x y ys up) h) ∙ first))

      is : (a b : Bool) → ends_at at v x ≡ a → ends_at at v y ≡ b → single (kept a b x y (filter (ends_at at v) ys)) ≡ cond (a && not b) (Some x) None → single (filter (ends_at at v) (x ∷ y ∷ ys)) ≡ first_alone (ends_at at v) (x ∷ y ∷ ys)
      is a b e f h = ap₂ (λ s t. single (kept s t x y (filter (ends_at at v) ys))) e f ∙ h ∙ sym (ap₂ (λ s t. cond (s && not t) (Some x) None) e f)

      go : (a b : Bool) → ends_at at v x ≡ a → ends_at at v y ≡ b → single (filter (ends_at at v) (x ∷ y ∷ ys)) ≡ first_alone (ends_at at v) (x ∷ y ∷ ys)
      go true true e f = is true true e f refl
      go true false e f = is true false e f (ap (λ l. single (x ∷ l)) (none_at v y ys (rising_rest x (y ∷ ys) up) second f))
      go false true e f = absurd (true≢false (sym f ∙ later_not_same (at x) (at y) v first e (rising_next x y ys up)))
      go false false e f = is false false e f (ap single (none_at v y ys (rising_rest x (y ∷ ys) up) second f))

  pub single_found : (v : Point) (xs : List Piece) (i : ℕ) → is_sorted_by at xs ≡ true → i ≤ length xs → IsPartitionPoint (λ p. comes_before (at p) v ≡ true) (λ p. comes_before (at p) v ≡ false) xs i → single (filter (ends_at at v) xs) ≡ first_alone (ends_at at v) (drop i xs)
  single_found v xs zero up few parts = single_first v xs up (λ d some. parts.1 0 d (omega arith) some)
  single_found v [] (suc i) up few parts = absurd (omega arith)
  single_found v (x ∷ xs) (suc i) up few parts =
      ap (λ b. single (cond b (x ∷ filter (ends_at at v) xs) (filter (ends_at at v) xs))) (before_not_same (at x) v (parts.0 0 x (omega arith) (omega arith)))
      ∙ single_found v xs i (rising_rest x xs up) (omega arith) (λ k d low high. parts.0 (suc k) d (omega arith) (omega arith), λ k d low high. parts.1 (suc k) d (omega arith) (omega arith))

  -- from a list sorted by that point
  rising_from : (xs : List Piece) → IsSortedBy (λ p q. comes_before (at p) (at q)) xs → is_sorted_by at xs ≡ true
  rising_from [] sorted = refl
  rising_from (x ∷ []) sorted = refl
  rising_from (x ∷ y ∷ ys) sorted =
      and_from (not (comes_before (at y) (at x))) (is_sorted_by at (y ∷ ys)) (not_from_false _ (sorted 0 x (omega arith) (omega arith))) (rising_from (y ∷ ys) (λ k d low high.
      let next : suc k + 1 ≡ suc (k + 1) = omega arith in
      subst (λ n. comes_before (at (get_or (x ∷ y ∷ ys) n d)) (at (get_or (y ∷ ys) k d)) ≡ false) next (sorted (suc k) d (omega arith) (omega arith))))

-- from what a sort by that point ensures, where each call gives the point
pub rising_by_key : (at : Piece → Point) {F : Type 0} {g : Mut F (Bor Piece × Unit {0}) Point} {f : F} (xs : List Piece)
    → ((key : Piece → Point) → ComputesKey g key f → IsSortedBy (λ p q. comes_before (key p) (key q)) xs)
    → ((a : Bor Piece × Unit {0}) (r : Point) (f' : F) → Called g f a r f' → (r ≡ at a.0.now) × (f' ≡ f))
    → is_sorted_by at xs ≡ true
rising_by_key at {g = g} {f = f} xs sorted h = rising_from at xs (sorted at (always_returns_same g (λ a r. r ≡ at a.0.now) f h))

-- pieces in order rise by their lesser ends
pub ascending_rises : (ps : List Piece) → is_ascending (segments_of ps) ≡ true → is_sorted_by beginning_of ps ≡ true
ascending_rises [] up = refl
ascending_rises (p ∷ []) up = refl
ascending_rises (p ∷ q ∷ qs) up =
    and_from (not (comes_before (beginning_of q) (beginning_of p))) (is_sorted_by beginning_of (q ∷ qs))
    (not_from_false _ (before_begins p.segment q.segment (first_before (λ (t : Piece). t.segment) p (q ∷ qs) q up (inl refl))))
    (ascending_rises (q ∷ qs) (ascending_rest (λ (t : Piece). t.segment) p (q ∷ qs) up))

-- ---- the same pieces in another order

same_single : (xs ys : List Piece) → length xs ≡ length ys → ((z : Piece) → Member xs z → Member ys z) → single xs ≡ single ys
same_single [] [] e m = refl
same_single [] (y ∷ ys) e m = absurd (omega arith)
same_single (x ∷ xs) [] e m = absurd (omega arith)
same_single (x ∷ []) (y ∷ []) e m = elim (m x (inl refl)) [ inl f ↦ ap Some (sym f) | inr n ↦ absurd n ]
same_single (x ∷ []) (y ∷ z ∷ ys) e m = absurd (omega arith)
same_single (x ∷ w ∷ xs) (y ∷ []) e m = absurd (omega arith)
same_single (x ∷ w ∷ xs) (y ∷ z ∷ ys) e m = refl

pub single_permuted : (test : Piece → Bool) (xs ys : List Piece) → IsPermutation xs ys → single (filter test ys) ≡ single (filter test xs)
single_permuted test xs ys h =
    same_single (filter test ys) (filter test xs)
    (length-filter test ys ∙ sum_by-IsPermutation (λ x. cond (test x) 1 0) xs ys h ∙ sym (length-filter test xs))
    (λ z m. let w = filter_member test ys z m in
    member_filter test xs z (member xs z (Contains-permutation ys xs z (IsPermutation-sym xs ys h) (contained ys z w.0))) w.1)

pub only_arrival : (pieces arrivals : List Piece) (v : Point) → AreSorted pieces arrivals → only_at arrival_of arrivals v ≡ only_at arrival_of pieces v
only_arrival pieces arrivals v h = single_permuted (ends_at arrival_of v) pieces arrivals h.same
