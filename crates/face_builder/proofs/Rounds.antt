-- Faces are closed walks: each half-edge goes on to the next, and the last one to the first.
use Rattle.std.proofs.Common.{◌≡◌, ℕ, ◌+◌, ◌<◌, ◌≤◌, Bool, true, false, ◌⊎◌, inl, inr, List, [], ◌∷◌, ◌++◌, length, map, nat_eq, Option, None, Some, refl, sym, ap, subst, ◌∙◌, arith}
use Rattle.std.specs.Prelude.{slice_get}
use Rattle.std.specs.Ordering.{nat_cmp}
use Rattle.std.specs.declared.cmp.Ordering.{Ordering}
use Rattle.std.specs.declared.cmp.Ordering.TheVariants.{Less, Equal, Greater}
use Rattle.std.proofs.lemmas.Bool.{cond_both, eqb-true, eqb-false, false≢true}
use Rattle.std.proofs.lemmas.Cmp.{ranked}
use Rattle.std.proofs.lemmas.List.{get_or-map, length-map}
use Rattle.std.proofs.lemmas.Option.{slice_get_within, get_or_from_slice_get}
use Rattle.line_split.specs.MemberLaws.{Member}
use Rattle.line_split.specs.Points.{by_order}
use Rattle.face_builder.specs.declared.half_edges.HalfEdge.{HalfEdge}
use Rattle.face_builder.specs.Cycle.{next_of, comes_first, is_leader, rest_from, cycle_from, leaders_from}
use Rattle.face_builder.specs.Faces.{half_edge_in, half_edges_at, led_face, faces_among}
use Rattle.face_builder.specs.Fan.{next_place, nexts_of}
use Rattle.face_builder.proofs.Chains.{flat_member}
use Rattle.face_builder.proofs.Nexts.{GoesOn, member_of_place, at_place}

-- ---- places

module _ (nexts : List ℕ) where
  -- from x each place of the list comes after the one before, and after the last one the first
  abbrev pub Leads : ℕ → ℕ → List ℕ → Type 0
  Leads first x [] = next_of nexts x ≡ first
  Leads first x (y ∷ ys) = (next_of nexts x ≡ y) × Leads first y ys

  goes_back : (o : Ordering) (rest : Bool) → by_order o false true rest ≡ true → (o ≡ Equal) ⊎ (rest ≡ true)
  goes_back Less rest e = absurd (false≢true e)
  goes_back Equal rest e = inl refl
  goes_back Greater rest e = inr e

  goes_later : (o : Ordering) (rest : Bool) → by_order o false true rest ≡ true → (o ≡ Equal → ⊥)
      → (o ≡ Greater) × (rest ≡ true)
  goes_later Less rest e other = absurd (false≢true e)
  goes_later Equal rest e other = absurd (other refl)
  goes_later Greater rest e other = (refl, e)

  pub comes_back : (first : ℕ) (steps : List ℕ) (x : ℕ) → comes_first nexts first steps (next_of nexts x)
      ≡ true
      → Leads first x (rest_from nexts first steps (next_of nexts x))
  comes_back first [] x e = absurd (false≢true e)
  comes_back first (step ∷ steps) x e =
      let i = next_of nexts x in
      cond_both (nat_eq i first) [] (i ∷ rest_from nexts first steps (next_of nexts i)) (Leads first x)
      (λ same. eqb-true i first same)
      (λ other. (
        refl,
        comes_back first steps i
            (elim (goes_back (nat_cmp i first) (comes_first nexts first steps (next_of nexts i)) e) [
              | inl same ↦ absurd (eqb-false i first other (ranked i first Equal (sym same)))
              | inr rest ↦ rest
            ]),
      ))

  -- the places behind a leader are greater
  pub rest_behind : (first : ℕ) (steps : List ℕ) (x : ℕ) → comes_first nexts first steps (next_of nexts x)
      ≡ true
      → (y : ℕ) → Member (rest_from nexts first steps (next_of nexts x)) y → first < y
  rest_behind first [] x e = λ y m. absurd m
  rest_behind first (step ∷ steps) x e = λ y.
      let i = next_of nexts x in
      cond_both (nat_eq i first) [] (i ∷ rest_from nexts first steps (next_of nexts i)) (λ ys. Member ys y
      → first < y)
      (λ same m. absurd m)
      (λ other m.
      let later : (nat_cmp i first ≡ Greater) × (comes_first nexts first steps (next_of nexts i) ≡ true) =
      goes_later (nat_cmp i first) (comes_first nexts first steps (next_of nexts i)) e
      (λ same. eqb-false i first other (ranked i first Equal (sym same))) in
      elim m [
        | inl at ↦ subst (λ k. first < k) at (ranked i first Greater (sym later.0))
        | inr n ↦ rest_behind first steps i later.1 y n
      ])

  -- a leader is a place of the list, and a walk from it comes back
  pub record IsLeaderAt (low high i : ℕ) : Type 0 where
    pub from : low ≤ i
    pub below : i < high
    pub leads : is_leader nexts i ≡ true

  pub leader_is : (i : ℕ) (rest : List ℕ) (x : ℕ) → Member (leaders_from nexts i rest) x
      → IsLeaderAt i (i + length rest) x
  leader_is i [] x = λ m. absurd m
  leader_is i (next ∷ rest) x =
      cond_both (is_leader nexts i) (i ∷ leaders_from nexts (i + 1) rest) (leaders_from nexts (i + 1) rest)
      (λ ls. Member ls x → IsLeaderAt i (i + length (next ∷ rest)) x)
      (λ e m.
      elim m [
        | inl at ↦ record {
          from = omega (arith, at);
          below = omega (arith, at);
          leads = subst (λ k. is_leader nexts k ≡ true) at e;
        }
        | inr n ↦ later (leader_is (i + 1) rest x n)
      ])
      (λ e m. later (leader_is (i + 1) rest x m))
    where
      later : IsLeaderAt (i + 1) (i + 1 + length rest) x → IsLeaderAt i (i + length (next ∷ rest)) x
      later l = record { from = omega (arith, l.from); below = omega (arith, l.below); leads = l.leads }

-- ---- half-edges

module _ (hs : List HalfEdge) (goes : (h : HalfEdge) → Member hs h → (g : HalfEdge) × GoesOn hs h g) where
  -- the same of half-edges
  abbrev pub Follows : HalfEdge → HalfEdge → List HalfEdge → Type 0
  Follows first h [] = GoesOn hs h first
  Follows first h (g ∷ gs) = GoesOn hs h g × Follows first g gs

  pub next_at : (x : ℕ) (h : HalfEdge) → slice_get hs x ≡ Some h → next_of (nexts_of hs) x ≡ next_place hs h
  unfolding nexts_of
  next_at x h at =
      get_or-map (next_place hs) hs x h 0 (slice_get_within hs x h at)
      ∙ ap (next_place hs) (get_or_from_slice_get hs x h h at)

  some_is : (g h : HalfEdge) → Some g ≡ Some h → g ≡ h
  some_is g h e = cc

  pub follows : (first x : ℕ) (f h : HalfEdge) (rest : List ℕ) → slice_get hs first ≡ Some f → slice_get hs x
      ≡ Some h
      → Leads (nexts_of hs) first x rest → Follows f h (half_edges_at hs rest)
  follows first x f h [] at_first at l =
      let k = goes h (member_of_place hs x h at) in
      let same : k.0 ≡ f =
      some_is k.0 f (sym k.1.stands ∙ ap (slice_get hs) (sym (next_at x h at) ∙ l) ∙ at_first) in
      subst (λ (g : HalfEdge). GoesOn hs h g) same k.1
  follows first x f h (y ∷ ys) at_first at l =
      let k = goes h (member_of_place hs x h at) in
      let stands : slice_get hs y ≡ Some k.0 = ap (slice_get hs) (sym l.0 ∙ next_at x h at) ∙ k.1.stands in
      subst (Follows f h) (sym (ap (λ o. half_edge_in o ++ half_edges_at hs ys) stands))
      (k.1, follows first y f k.0 ys at_first stands l.1)

  in_some : (o : Option HalfEdge) (g : HalfEdge) → Member (half_edge_in o) g → o ≡ Some g
  in_some None g m = absurd m
  in_some (Some h) g (inl at) = ap Some at
  in_some (Some h) g (inr none) = absurd none

  pub at_member : (places : List ℕ) (g : HalfEdge) → Member (half_edges_at hs places) g
      → (k : ℕ) × Member places k × (slice_get hs k ≡ Some g)
  at_member places g m =
      let r = flat_member (λ i. half_edge_in (slice_get hs i)) places g m in
      (r.0, r.1, in_some (slice_get hs r.0) g r.2)

  -- a face is a closed walk from its first half-edge
  pub record IsRound (face : List HalfEdge) : Type 0 where
    pub first : HalfEdge
    pub others : List HalfEdge
    pub whole : face ≡ first ∷ others
    pub member : Member hs first
    pub place : ℕ
    pub stands : slice_get hs place ≡ Some first
    pub behind : (g : HalfEdge) → Member others g → (k : ℕ) × (place < k) × (slice_get hs k ≡ Some g)
    pub closed : Follows first first others

  unfoldable pub round_of : (i : ℕ) → i < length hs → is_leader (nexts_of hs) i ≡ true
      → IsRound (led_face hs (nexts_of hs) i)
  unfolding is_leader cycle_from
  round_of i less leads =
      let there = at_place hs i less in
      let h = there.0 in
      let rest = rest_from (nexts_of hs) i (nexts_of hs) (next_of (nexts_of hs) i) in
      record {
        first = h;
        others = half_edges_at hs rest;
        whole = ap (λ o. half_edge_in o ++ half_edges_at hs rest) there.1;
        member = member_of_place hs i h there.1;
        place = i;
        stands = there.1;
        behind = λ g m.
            let k = at_member rest g m in
            (k.0, rest_behind (nexts_of hs) i (nexts_of hs) i leads k.0 k.1, k.2);
        closed = follows i i h h rest there.1 there.1 (comes_back (nexts_of hs) i (nexts_of hs) i leads);
      }

  rounds_by : (ls : List ℕ) → ((i : ℕ) → Member ls i → IsLeaderAt (nexts_of hs) 0 (length hs) i)
      → (face : List HalfEdge)
      → Member (map (led_face hs (nexts_of hs)) ls) face → IsRound face
  rounds_by [] all face m = absurd m
  rounds_by (i ∷ ls) all face (inl at) =
      let l = all i (inl refl) in subst IsRound at (round_of i l.below l.leads)
  rounds_by (i ∷ ls) all face (inr m) = rounds_by ls (λ j n. all j (inr n)) face m

  -- each face is one
  pub rounds : (face : List HalfEdge) → Member (faces_among hs) face → IsRound face
  unfolding faces_among nexts_of
  rounds face m =
      rounds_by (leaders_from (nexts_of hs) 0 (nexts_of hs))
      (λ i n. subst (λ k. IsLeaderAt (nexts_of hs) 0 k i) (omega (arith, length-map hs (next_place hs)))
      (leader_is (nexts_of hs) 0 (nexts_of hs) i n))
      face m
