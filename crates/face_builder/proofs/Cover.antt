-- The next half-edge is a permutation, so each half-edge is in just one face.
use Rattle.std.proofs.Common.{◌≡◌, ℕ, ◌+◌, ◌<◌, inl, inr, List, [], ◌∷◌, length, map, true, Option, None, Some, refl, sym, ap, subst, ◌∙◌, arith}
use Rattle.std.specs.Prelude.{slice_get}
use Rattle.std.specs.Option.{option_map}
use Rattle.std.proofs.lemmas.Bool.{cond_both}
use Rattle.std.proofs.lemmas.List.{length-map}
use Rattle.std.proofs.lemmas.Option.{slice_get_within, slice_get-map}
use Rattle.crease_model.specs.Rules.{IsPattern}
use Rattle.crease_model.specs.Sheet.{is_sheet}
use Rattle.crease_model.specs.PartLaws.{sheet_turns}
use Rattle.crease_model.specs.View.{PatternView}
use Rattle.line_split.specs.MemberLaws.{Member}
use Rattle.face_builder.specs.declared.half_edges.HalfEdge.{HalfEdge}
use Rattle.face_builder.specs.Cycle.{ArePermuted, next_of, is_leader, cycle_from, leaders_from}
use Rattle.face_builder.specs.Faces.{half_edge_in, led_face, faces_among}
use Rattle.face_builder.specs.Fan.{next_place, nexts_of}
use Rattle.face_builder.specs.HalfEdge.{half_edges_of}
use Rattle.face_builder.proofs.Arrivals.{arrive_once}
use Rattle.face_builder.proofs.Chains.{member_flat}
use Rattle.face_builder.proofs.Distinct.{Distinct, distinct_places, half_edges_distinct}
use Rattle.face_builder.proofs.Nexts.{GoesOn, goes_on, place_of_member, member_of_place, at_place}
use Rattle.face_builder.proofs.Partition.{led, listed, one_leader}
use Rattle.face_builder.proofs.Rounds.{leader_is, next_at, at_member}
use Rattle.face_builder.proofs.Sides.{from_sorted, to_sorted, runs, leads}

pub member_map : {A X : Type 0} (f : A → X) (items : List A) (a : A) → Member items a
    → Member (map f items) (f a)
member_map f [] a m = absurd m
member_map f (b ∷ bs) a (inl e) = inl (ap f e)
member_map f (b ∷ bs) a (inr m) = inr (member_map f bs a m)

pub some_is : {X : Type 0} (g h : X) → Some g ≡ Some h → g ≡ h
some_is g h e = cc

module _ (p : PatternView) (sheet : is_sheet p.corners ≡ true) (rules : IsPattern p) where
  abbrev hs : List HalfEdge
  hs = half_edges_of p

  abbrev nexts : List ℕ
  nexts = nexts_of hs

  goes : (h : HalfEdge) → Member hs h → (g : HalfEdge) × GoesOn hs h g
  goes h m = let x = leads p (sheet_turns p.corners sheet).0 h m in goes_on hs h x.0 x.1 x.2

  as_many : length nexts ≡ length hs
  unfolding nexts_of
  as_many = length-map hs (next_place hs)

  into : (x : ℕ) → x < length nexts → next_of nexts x < length nexts
  into x less =
      let there = at_place hs x (omega (arith, less, as_many)) in
      let k = goes there.0 (member_of_place hs x there.0 there.1) in
      let within = slice_get_within hs (next_place hs there.0) k.0 k.1.stands in
      let at = next_at hs goes x there.0 there.1 in
      omega (arith, within, as_many, at)

  one_to_one : (x y : ℕ) → x < length nexts → y < length nexts → next_of nexts x ≡ next_of nexts y → x ≡ y
  one_to_one x y less_x less_y e =
      let g = at_place hs x (omega (arith, less_x, as_many)) in
      let h = at_place hs y (omega (arith, less_y, as_many)) in
      let m = member_of_place hs x g.0 g.1 in
      let n = member_of_place hs y h.0 h.1 in
      let k = goes g.0 m in
      let l = goes h.0 n in
      let same_place : next_place hs g.0 ≡ next_place hs h.0 = sym (next_at hs goes x g.0 g.1) ∙ e
      ∙ next_at hs goes y h.0 h.1 in
      let same_next : l.0 ≡ k.0 =
      some_is l.0 k.0 (sym l.1.stands ∙ ap (slice_get hs) (sym same_place) ∙ k.1.stands) in
      let directed = (sheet_turns p.corners sheet).0 in
      let one : g.0 ≡ h.0 =
      arrive_once p sheet rules hs (from_sorted p directed) (to_sorted p directed)
      (runs p directed) g.0 h.0 k.0 m n k.1
      (subst (λ z. GoesOn hs h.0 z) same_next l.1) in
      distinct_places hs (half_edges_distinct p sheet) x y g.0 g.1 (h.1 ∙ ap Some (sym one))

  pub permuted : ArePermuted nexts
  permuted = record { into = into; apart = one_to_one }

  -- each half-edge is in a face
  pub covered : (g : HalfEdge) → Member hs g → (face : List HalfEdge) × Member (faces_among hs) face
      × Member face g
  unfolding faces_among
  covered g m =
      let place = place_of_member hs g m in
      let less : place.0 < length nexts = omega (arith, slice_get_within hs place.0 g place.1, as_many) in
      let l = led nexts into one_to_one place.0 less in
      let in_list = listed nexts l.leader l.below l.leads in (
        led_face hs nexts l.leader,
        member_map (led_face hs nexts) (leaders_from nexts 0 nexts) l.leader in_list,
        member_flat (λ i. half_edge_in (slice_get hs i)) (cycle_from nexts l.leader) place.0 g l.within_cycle
            (subst (λ o. Member (half_edge_in o) g) (sym place.1) (inl refl)),
      )

  -- and two faces that have one are led by one place
  pub one_leads : (f k : ℕ) (g : HalfEdge) → is_leader nexts f ≡ true → is_leader nexts k ≡ true
      → Member (led_face hs nexts f) g
      → Member (led_face hs nexts k) g → f ≡ k
  one_leads f k g e d m n =
      let a = at_member hs goes (cycle_from nexts f) g m in
      let b = at_member hs goes (cycle_from nexts k) g n in
      let same : b.0 ≡ a.0 = distinct_places hs (half_edges_distinct p sheet) b.0 a.0 g b.2 a.2 in
      one_leader nexts f k a.0 e d a.1 (subst (λ y. Member (cycle_from nexts k) y) same b.1)

  -- ---- faces by their numbers

  leaders_ascend : (i : ℕ) (rest : List ℕ) → Distinct (leaders_from nexts i rest)
  leaders_ascend i [] = tt
  leaders_ascend i (next ∷ rest) =
      cond_both (is_leader nexts i) (i ∷ leaders_from nexts (i + 1) rest)
      (leaders_from nexts (i + 1) rest) Distinct
      (λ e. (
        (λ m. let l = leader_is nexts (i + 1) rest i m in absurd (omega (arith, l.from))),
        leaders_ascend (i + 1) rest,
      ))
      (λ e. leaders_ascend (i + 1) rest)

  -- the leader of a face of the list
  record IsLedBy (i : ℕ) (face : List HalfEdge) : Type 0 where
    leader : ℕ
    stands : slice_get (leaders_from nexts 0 nexts) i ≡ Some leader
    leads : is_leader nexts leader ≡ true
    whole : led_face hs nexts leader ≡ face

  led_by : (i : ℕ) (face : List HalfEdge) → slice_get (faces_among hs) i ≡ Some face → IsLedBy i face
  unfolding faces_among
  led_by i face at =
      go (slice_get (leaders_from nexts 0 nexts) i) refl
      (sym (slice_get-map (led_face hs nexts) (leaders_from nexts 0 nexts) i) ∙ at)
    where
      go : (o : Option ℕ) → slice_get (leaders_from nexts 0 nexts) i ≡ o → option_map (led_face hs nexts) o
          ≡ Some face → IsLedBy i face
      go None e f = cc
      go (Some leader) e f =
          record {
            leader = leader;
            stands = e;
            leads = (leader_is nexts 0 nexts leader
                (member_of_place (leaders_from nexts 0 nexts) i leader e)).leads;
            whole = some_is (led_face hs nexts leader) face f;
          }

  -- a half-edge is in the face of one number
  pub place_once : (i j : ℕ) (f k : List HalfEdge) (g : HalfEdge) → slice_get (faces_among hs) i ≡ Some f
      → slice_get (faces_among hs) j ≡ Some k → Member f g → Member k g → i ≡ j
  place_once i j f k g at too m n =
      let a = led_by i f at in
      let b = led_by j k too in
      let one : b.leader ≡ a.leader =
      one_leads b.leader a.leader g b.leads a.leads (subst (λ x. Member x g) (sym b.whole) n)
      (subst (λ x. Member x g) (sym a.whole) m) in
      distinct_places (leaders_from nexts 0 nexts) (leaders_ascend 0 nexts) i j a.leader a.stands (b.stands
      ∙ ap Some one)
