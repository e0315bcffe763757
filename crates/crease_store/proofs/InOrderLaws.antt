-- Lists in the order of segments with more put in their places: they ascend, and what is in them.
use Rattle.std.proofs.Common.{◌≡◌, ◌+◌, ◌≤◌, true, ◌⊎◌, inl, inr, List, [], ◌∷◌, length, map, refl, sym, ap, subst, ◌∙◌, arith, ℕ, zero, suc, false, ◌++◌, take, drop, get_or, ◌<◌}
use Rattle.std.specs.Ordering.{is_lt, is_eq, ordering_reverse}
use Rattle.std.specs.List.Sorted.{IsPartitionedBy, IsPartitionPoint}
use Rattle.std.proofs.lemmas.Cmp.{tied_itself}
use Rattle.std.specs.declared.cmp.Ordering.{Ordering}
use Rattle.std.specs.declared.cmp.Ordering.TheVariants.{Less, Equal, Greater}
use Rattle.std.proofs.lemmas.Bool.{and_parts, and_from, false≢true}
use Rattle.plane_geometry.specs.declared.Segment.{Segment}
use Rattle.plane_geometry.specs.Order.{compare_segments, is_before}
use Rattle.plane_geometry.specs.OrderLaws.{compare_segments_total, before_trans, before_turned, tied_segments}
use Rattle.crease_model.specs.Rules.{is_ascending}
use Rattle.line_split.specs.Points.{by_order}
use Rattle.line_split.specs.MemberLaws.{Member, member_right}
use Rattle.crease_store.specs.InOrder.{with_in_order, with_all_in_order}
use Rattle.crease_store.proofs.Ascending.{first_before, ascending_rest}

less_is : (o : Ordering) → is_lt o ≡ true → o ≡ Less
less_is Less e = refl
less_is Equal e = absurd (false≢true e)
less_is Greater e = absurd (false≢true e)

equal_is : (o : Ordering) → is_eq o ≡ true → o ≡ Equal
equal_is Less e = absurd (false≢true e)
equal_is Equal e = refl
equal_is Greater e = absurd (false≢true e)

greater_is : (o : Ordering) → is_lt o ≡ false → is_eq o ≡ false → o ≡ Greater
greater_is Less e f = absurd (false≢true (sym e))
greater_is Equal e f = absurd (false≢true (sym f))
greater_is Greater e f = refl

compared_back : (s u : Segment) (o r : Ordering) → compare_segments s u ≡ o → ordering_reverse o ≡ r → compare_segments u s ≡ r
compared_back s u o r e f = compare_segments_total.antisymm u s ∙ ap ordering_reverse e ∙ f

module _ {X : Type 0} (segment_at : X → Segment) where
  abbrev compared : X → X → Ordering
  compared x y = compare_segments (segment_at x) (segment_at y)

  -- ---- order

  ascending_behind : (p : X) (xs : List X) (q : X) → is_before (segment_at p) (segment_at q) ≡ true → is_ascending (map segment_at (p ∷ xs)) ≡ true → is_ascending (map segment_at (p ∷ with_in_order segment_at xs q)) ≡ true
  ascending_behind p [] q before up = and_from (is_before (segment_at p) (segment_at q)) true before refl
  ascending_behind p (x ∷ xs) q before up = go (compared q x) refl (λ e. ascending_behind x xs q e parts.1)
    where
      parts : (is_before (segment_at p) (segment_at x) ≡ true) × (is_ascending (map segment_at (x ∷ xs)) ≡ true)
      parts = and_parts (is_before (segment_at p) (segment_at x)) (is_ascending (map segment_at (x ∷ xs))) up

      go : (o : Ordering) → compared q x ≡ o → (is_before (segment_at x) (segment_at q) ≡ true → is_ascending (map segment_at (x ∷ with_in_order segment_at xs q)) ≡ true)
          → is_ascending (map segment_at (p ∷ by_order o (q ∷ x ∷ xs) (q ∷ xs) (x ∷ with_in_order segment_at xs q))) ≡ true
      go Less e behind = and_from _ _ before (and_from _ _ (ap is_lt e) parts.1)
      go Equal e behind =
          and_from _ _ before (subst (λ (s : Segment). is_ascending (s ∷ map segment_at xs) ≡ true) (sym (tied_segments (segment_at q) (segment_at x) e)) parts.1)
      go Greater e behind = and_from _ _ parts.0 (behind (before_turned (segment_at q) (segment_at x) e))

  pub placed_ascends : (xs : List X) (q : X) → is_ascending (map segment_at xs) ≡ true → is_ascending (map segment_at (with_in_order segment_at xs q)) ≡ true
  placed_ascends [] q up = refl
  placed_ascends (x ∷ xs) q up = go (compared q x) refl
    where
      go : (o : Ordering) → compared q x ≡ o → is_ascending (map segment_at (by_order o (q ∷ x ∷ xs) (q ∷ xs) (x ∷ with_in_order segment_at xs q))) ≡ true
      go Less e = and_from _ _ (ap is_lt e) up
      go Equal e = subst (λ (s : Segment). is_ascending (s ∷ map segment_at xs) ≡ true) (sym (tied_segments (segment_at q) (segment_at x) e)) up
      go Greater e = ascending_behind x xs q (before_turned (segment_at q) (segment_at x) e) up

  pub placed_all_ascends : (xs news : List X) → is_ascending (map segment_at xs) ≡ true → is_ascending (map segment_at (with_all_in_order segment_at xs news)) ≡ true
  placed_all_ascends xs [] up = up
  placed_all_ascends xs (q ∷ qs) up = placed_all_ascends (with_in_order segment_at xs q) qs (placed_ascends xs q up)

  -- ---- members

  pub placed_new : (xs : List X) (q : X) → Member (with_in_order segment_at xs q) q
  placed_new [] q = inl refl
  placed_new (x ∷ xs) q =
      elim (compared q x) as (λ o. Member (by_order o (q ∷ x ∷ xs) (q ∷ xs) (x ∷ with_in_order segment_at xs q)) q)
      [ Less ↦ inl refl | Equal ↦ inl refl | Greater ↦ inr (placed_new xs q) ]

  -- what is not on the same segment stays
  pub placed_old : (xs : List X) (q z : X) → Member xs z → Member (with_in_order segment_at xs q) z ⊎ (segment_at q ≡ segment_at z)
  placed_old [] q z m = absurd m
  placed_old (x ∷ xs) q z m = go (compared q x) refl m (placed_old xs q z)
    where
      go : (o : Ordering) → compared q x ≡ o → (x ≡ z) ⊎ Member xs z → (Member xs z → Member (with_in_order segment_at xs q) z ⊎ (segment_at q ≡ segment_at z))
          → Member (by_order o (q ∷ x ∷ xs) (q ∷ xs) (x ∷ with_in_order segment_at xs q)) z ⊎ (segment_at q ≡ segment_at z)
      go Less e n rest = inl (inr n)
      go Equal e (inl f) rest = inr (tied_segments (segment_at q) (segment_at x) e ∙ ap segment_at f)
      go Equal e (inr n) rest = inl (inr n)
      go Greater e (inl f) rest = inl (inl f)
      go Greater e (inr n) rest = elim (rest n) [ inl l ↦ inl (inr l) | inr r ↦ inr r ]

  pub placed_either : (xs : List X) (q z : X) → Member (with_in_order segment_at xs q) z → (q ≡ z) ⊎ Member xs z
  placed_either [] q z m = m
  placed_either (x ∷ xs) q z m = go (compared q x) m (placed_either xs q z)
    where
      go : (o : Ordering) → Member (by_order o (q ∷ x ∷ xs) (q ∷ xs) (x ∷ with_in_order segment_at xs q)) z → (Member (with_in_order segment_at xs q) z → (q ≡ z) ⊎ Member xs z) → (q ≡ z) ⊎ Member (x ∷ xs) z
      go Less n rest = n
      go Equal (inl e) rest = inl e
      go Equal (inr n) rest = inr (inr n)
      go Greater (inl e) rest = inr (inl e)
      go Greater (inr n) rest = elim (rest n) [ inl l ↦ inl l | inr r ↦ inr (inr r) ]

  pub placed_all_either : (xs news : List X) (z : X) → Member (with_all_in_order segment_at xs news) z → Member news z ⊎ Member xs z
  placed_all_either xs [] z m = inr m
  placed_all_either xs (q ∷ qs) z m =
      elim (placed_all_either (with_in_order segment_at xs q) qs z m) [
        | inl l ↦ inl (inr l)
        | inr r ↦ elim (placed_either xs q z r) [ inl e ↦ inl (inl e) | inr n ↦ inr n ]
      ]

  -- what has no other on its segment is there
  pub placed_all_has : (xs news : List X) (z : X) → ((w : X) → Member news w ⊎ Member xs w → segment_at w ≡ segment_at z → w ≡ z) → Member news z ⊎ Member xs z → Member (with_all_in_order segment_at xs news) z
  placed_all_has xs [] z one (inl m) = absurd m
  placed_all_has xs [] z one (inr m) = m
  placed_all_has xs (q ∷ qs) z one m = placed_all_has (with_in_order segment_at xs q) qs z one_left (there m)
    where
      one_left : (w : X) → Member qs w ⊎ Member (with_in_order segment_at xs q) w → segment_at w ≡ segment_at z → w ≡ z
      one_left w (inl n) same = one w (inl (inr n)) same
      one_left w (inr n) same =
          elim (placed_either xs q w n) [ inl e ↦ one w (inl (inl e)) same | inr k ↦ one w (inr k) same ]

      put : q ≡ z → Member (with_in_order segment_at xs q) z
      put e = subst (Member (with_in_order segment_at xs q)) e (placed_new xs q)

      there : Member (q ∷ qs) z ⊎ Member xs z → Member qs z ⊎ Member (with_in_order segment_at xs q) z
      there (inl (inl e)) = inr (put e)
      there (inl (inr n)) = inl n
      there (inr n) = elim (placed_old xs q z n) [ inl l ↦ inr l | inr same ↦ inr (put (one q (inl (inl refl)) same)) ]

  -- ---- by the place where it goes

  walked : (x : X) (xs : List X) (q : X) → is_before (segment_at x) (segment_at q) ≡ true
      → with_in_order segment_at (x ∷ xs) q ≡ x ∷ with_in_order segment_at xs q
  walked x xs q e = ap (λ o. by_order o (q ∷ x ∷ xs) (q ∷ xs) (x ∷ with_in_order segment_at xs q)) (compared_back (segment_at x) (segment_at q) Less Greater (less_is _ e) refl)

  took_place : (x : X) (xs : List X) (q : X) → is_eq (compared x q) ≡ true → with_in_order segment_at (x ∷ xs) q ≡ q ∷ xs
  took_place x xs q e = ap (λ o. by_order o (q ∷ x ∷ xs) (q ∷ xs) (x ∷ with_in_order segment_at xs q)) (compared_back (segment_at x) (segment_at q) Equal Equal (equal_is _ e) refl)

  went_before : (x : X) (xs : List X) (q : X) → is_lt (compared x q) ≡ false → is_eq (compared x q) ≡ false → with_in_order segment_at (x ∷ xs) q ≡ q ∷ x ∷ xs
  went_before x xs q e f = ap (λ o. by_order o (q ∷ x ∷ xs) (q ∷ xs) (x ∷ with_in_order segment_at xs q)) (compared_back (segment_at x) (segment_at q) Greater Less (greater_is _ e f) refl)

  -- where those in front stand before it and the next one is on its segment
  pub in_place_of : (xs : List X) (q d : X) (i : ℕ) → i < length xs → ((k : ℕ) (e : X) → k < i → is_before (segment_at (get_or xs k e)) (segment_at q) ≡ true) → is_eq (compared (get_or xs i d) q) ≡ true
      → with_in_order segment_at xs q ≡ take i xs ++ q ∷ drop (suc i) xs
  in_place_of [] q d i few before e = absurd (omega arith)
  in_place_of (x ∷ xs) q d zero few before e = took_place x xs q e
  in_place_of (x ∷ xs) q d (suc i) few before e =
      walked x xs q (before 0 x (omega arith)) ∙ ap (λ (l : List X). x ∷ l) (in_place_of xs q d i (omega arith) (λ k f less. before (suc k) f (omega arith)) e)

  -- where those in front stand before it and the next one doesn't and is not on its segment
  in_place_at : (xs : List X) (q : X) (i : ℕ) → i ≤ length xs
      → ((k : ℕ) (e : X) → k < i → is_before (segment_at (get_or xs k e)) (segment_at q) ≡ true)
      → (i < length xs → (d : X) × (is_lt (compared (get_or xs i d) q) ≡ false) × (is_eq (compared (get_or xs i d) q) ≡ false))
      → with_in_order segment_at xs q ≡ take i xs ++ q ∷ drop i xs
  in_place_at [] q zero few before after = refl
  in_place_at [] q (suc i) few before after = absurd (omega arith)
  in_place_at (x ∷ xs) q zero few before after = let w = after (omega arith) in went_before x xs q w.1 w.2
  in_place_at (x ∷ xs) q (suc i) few before after =
      walked x xs q (before 0 x (omega arith))
      ∙ ap (λ (l : List X). x ∷ l)
      (in_place_at xs q i (omega arith) (λ k f less. before (suc k) f (omega arith)) (λ less. after (omega arith)))

  -- the place that a binary search finds
  abbrev pub IsPlaceFor : List X → X → ℕ → Type 0
  IsPlaceFor xs q i =
      IsPartitionPoint (λ x. is_before (segment_at x) (segment_at q) ≡ true) (λ x. is_before (segment_at x) (segment_at q) ≡ false) xs i

  pub taken_at : (xs : List X) (q d : X) (i : ℕ) → i < length xs → IsPlaceFor xs q i → is_eq (compared (get_or xs i d) q) ≡ true
      → with_in_order segment_at xs q ≡ take i xs ++ q ∷ drop (i + 1) xs
  taken_at xs q d i few parts e =
      let next : suc i ≡ i + 1 = omega arith in
      in_place_of xs q d i few (λ k f less. parts.0 k f (omega arith) less) e ∙ ap (λ n. take i xs ++ q ∷ drop n xs) next

  pub free_at : (xs : List X) (q : X) (i : ℕ) → i ≤ length xs → IsPlaceFor xs q i
      → (i < length xs → (d : X) × (is_eq (compared (get_or xs i d) q) ≡ false))
      → with_in_order segment_at xs q ≡ take i xs ++ q ∷ drop i xs
  free_at xs q i few parts free =
      in_place_at xs q i few (λ k f less. parts.0 k f (omega arith) less)
      (λ less. let w = free less in (w.0, parts.1 i w.0 (omega arith) less, w.1))

  before_each : (x : X) (xs : List X) → is_ascending (map segment_at (x ∷ xs)) ≡ true → (k : ℕ) (d : X) → k < length xs → is_before (segment_at x) (segment_at (get_or xs k d)) ≡ true
  before_each x [] up k d few = absurd (omega arith)
  before_each x (y ∷ ys) up zero d few = (and_parts (is_before (segment_at x) (segment_at y)) (is_ascending (map segment_at (y ∷ ys))) up).0
  before_each x (y ∷ ys) up (suc k) d few =
      let w = and_parts (is_before (segment_at x) (segment_at y)) (is_ascending (map segment_at (y ∷ ys))) up in
      before_trans (segment_at x) (segment_at y) (segment_at (get_or ys k d)) w.0 (before_each y ys w.1 k d (omega arith))

  -- of an ascending list a front stands before a segment
  pub ascending_parts : (q : Segment) (xs : List X) → is_ascending (map segment_at xs) ≡ true → IsPartitionedBy (λ x. is_before (segment_at x) q) xs
  ascending_parts q [] up i j d low high e = absurd (omega arith)
  ascending_parts q (x ∷ xs) up zero zero d low high e = e
  ascending_parts q (x ∷ xs) up zero (suc j) d low high e = before_trans (segment_at x) (segment_at (get_or xs j d)) q (before_each x xs up j d (omega arith)) e
  ascending_parts q (x ∷ xs) up (suc i) zero d low high e = absurd (omega arith)
  ascending_parts q (x ∷ xs) up (suc i) (suc j) d low high e = ascending_parts q xs (ascending_rest segment_at x xs up) i j d (omega arith) (omega arith) e

  tie_of : (q r : X) → segment_at q ≡ segment_at r → is_eq (compared q r) ≡ true
  tie_of q r same = ap is_eq (subst (λ (t : Segment). compare_segments (segment_at q) t ≡ Equal) same (tied_itself compare_segments_total (segment_at q)))

  -- ---- one on the same segment as the one before

  pub placed_twice : (xs : List X) (q r : X) → segment_at q ≡ segment_at r → with_in_order segment_at (with_in_order segment_at xs q) r ≡ with_in_order segment_at xs r
  placed_twice [] q r same = took_place q [] r (tie_of q r same)
  placed_twice (x ∷ xs) q r same = go (compared q x) refl (placed_twice xs q r same)
    where
      again : (o : Ordering) → compared q x ≡ o → with_in_order segment_at (x ∷ xs) r ≡ by_order o (r ∷ x ∷ xs) (r ∷ xs) (x ∷ with_in_order segment_at xs r)
      again o e = ap (λ (o : Ordering). by_order o (r ∷ x ∷ xs) (r ∷ xs) (x ∷ with_in_order segment_at xs r)) (ap (λ (t : Segment). compare_segments t (segment_at x)) (sym same) ∙ e)

      go : (o : Ordering) → compared q x ≡ o → with_in_order segment_at (with_in_order segment_at xs q) r ≡ with_in_order segment_at xs r
          → with_in_order segment_at (by_order o (q ∷ x ∷ xs) (q ∷ xs) (x ∷ with_in_order segment_at xs q)) r ≡ with_in_order segment_at (x ∷ xs) r
      go Less e rest = took_place q (x ∷ xs) r (tie_of q r same) ∙ sym (again Less e)
      go Equal e rest = took_place q xs r (tie_of q r same) ∙ sym (again Equal e)
      go Greater e rest =
          let behind : is_before (segment_at x) (segment_at r) ≡ true = subst (λ (t : Segment). is_before (segment_at x) t ≡ true) same (before_turned (segment_at q) (segment_at x) e) in
          walked x (with_in_order segment_at xs q) r behind ∙ ap (λ (l : List X). x ∷ l) rest ∙ sym (again Greater e)

  -- ---- behind all of a front

  in_order_behind : (front left : List X) (q : X) → ((x : X) → Member front x → is_before (segment_at x) (segment_at q) ≡ true) → with_in_order segment_at (front ++ left) q ≡ front ++ with_in_order segment_at left q
  in_order_behind [] left q before = refl
  in_order_behind (x ∷ xs) left q before =
      walked x (xs ++ left) q (before x (inl refl)) ∙ ap (λ (l : List X). x ∷ l) (in_order_behind xs left q (λ z m. before z (inr m)))

  pub all_behind : (front left qs : List X) → ((x z : X) → Member front x → Member qs z → is_before (segment_at x) (segment_at z) ≡ true)
      → with_all_in_order segment_at (front ++ left) qs ≡ front ++ with_all_in_order segment_at left qs
  all_behind front left [] before = refl
  all_behind front left (q ∷ qs) before =
      ap (λ (l : List X). with_all_in_order segment_at l qs) (in_order_behind front left q (λ x m. before x q m (inl refl)))
      ∙ all_behind front (with_in_order segment_at left q) qs (λ x z m n. before x z m (inr n))

  front_before : (front : List X) (q : X) (left : List X) → is_ascending (map segment_at (front ++ q ∷ left)) ≡ true → (x : X) → Member front x → is_before (segment_at x) (segment_at q) ≡ true
  front_before (y ∷ ys) q left up x (inl e) =
      subst (λ (t : X). is_before (segment_at t) (segment_at q) ≡ true) e (first_before segment_at y (ys ++ q ∷ left) q up (member_right ys (q ∷ left) q (inl refl)))
  front_before (y ∷ ys) q left up x (inr m) = front_before ys q left (ascending_rest segment_at y (ys ++ q ∷ left) up) x m
  front_before [] q left up x m = absurd m

  pub left_ascends : (front : List X) (q : X) (left : List X) → is_ascending (map segment_at (front ++ q ∷ left)) ≡ true → is_ascending (map segment_at left) ≡ true
  left_ascends [] q left up = ascending_rest segment_at q left up
  left_ascends (y ∷ ys) q left up = left_ascends ys q left (ascending_rest segment_at y (ys ++ q ∷ left) up)

  -- one goes into its place, and all that stand behind it go behind
  pub put_between : (xs front : List X) (q : X) (left qs : List X) → is_ascending (map segment_at xs) ≡ true → with_in_order segment_at xs q ≡ front ++ q ∷ left
      → ((z : X) → Member qs z → is_before (segment_at q) (segment_at z) ≡ true) → with_all_in_order segment_at xs (q ∷ qs) ≡ front ++ q ∷ with_all_in_order segment_at left qs
  put_between xs front q left qs up placed behind =
      let up_all : is_ascending (map segment_at (front ++ q ∷ left)) ≡ true = subst (λ (l : List X). is_ascending (map segment_at l) ≡ true) placed (placed_ascends xs q up) in
      ap (λ (l : List X). with_all_in_order segment_at l qs) placed
      ∙ all_behind front (q ∷ left) qs (λ x z m n. before_trans (segment_at x) (segment_at q) (segment_at z) (front_before front q left up_all x m) (behind z n))
      ∙ ap (λ (l : List X). front ++ l) (all_behind (q ∷ []) left qs (λ x z m n. in_front x z m n))
    where
      in_front : (x z : X) → Member (q ∷ []) x → Member qs z → is_before (segment_at x) (segment_at z) ≡ true
      in_front x z (inl e) n = subst (λ (t : X). is_before (segment_at t) (segment_at z) ≡ true) e (behind z n)
      in_front x z (inr m) n = absurd m

  -- ---- lengths

  pub placed_length : (xs : List X) (q : X) → length (with_in_order segment_at xs q) ≤ length xs + 1
  placed_length [] q = omega arith
  placed_length (x ∷ xs) q =
      let more = placed_length xs q in
      elim (compared q x) as (λ o. length (by_order o (q ∷ x ∷ xs) (q ∷ xs) (x ∷ with_in_order segment_at xs q)) ≤ length (x ∷ xs) + 1)
      [ Less ↦ omega arith | Equal ↦ omega arith | Greater ↦ omega (arith, more) ]

  pub placed_all_length : (xs news : List X) → length (with_all_in_order segment_at xs news) ≤ length xs + length news
  placed_all_length xs [] = omega arith
  placed_all_length xs (q ∷ qs) = let more = placed_all_length (with_in_order segment_at xs q) qs in omega (arith, more, placed_length xs q)
