-- Faces ascend by their least corners, then by the directions of the sides that leave them.
use Rattle.std.proofs.Common.{◌≡◌, ℕ, ◌+◌, ◌<◌, true, false, inl, inr, List, [], ◌∷◌, ◌++◌, map, length, Some, refl, sym, ap, ap₂, subst, ◌∙◌, arith}
use Rattle.std.specs.Prelude.{⊤, slice_get, take}
use Rattle.std.specs.List.{list_all}
use Rattle.std.specs.List.Sorted.{IsStrictlySortedBy}
use Rattle.std.specs.Ordering.{is_lt, ordering_then, ordering_reverse, nat_cmp}
use Rattle.std.specs.declared.cmp.Ordering.{Ordering}
use Rattle.std.specs.declared.cmp.Ordering.TheVariants.{Less, Equal, Greater}
use Rattle.std.proofs.lemmas.Bool.{cond_both, true≢false}
use Rattle.std.proofs.lemmas.Cmp.{nat_cmp_total}
use Rattle.std.proofs.lemmas.List.{length-map}
use Rattle.plane_geometry.specs.DirView.{dir_number}
use Rattle.plane_geometry.specs.OrderLaws.{tied_points}
use Rattle.plane_geometry.specs.Polygon.{Side, sides_of, has_direction}
use Rattle.crease_model.specs.Rules.{IsPattern}
use Rattle.crease_model.specs.Sheet.{is_sheet}
use Rattle.crease_model.specs.PartLaws.{sheet_turns}
use Rattle.crease_model.specs.View.{PatternView}
use Rattle.line_split.specs.MemberLaws.{Member, member_either}
use Rattle.line_split.specs.SortedLaws.{sorted_cons, sorted_none}
use Rattle.face_builder.specs.declared.half_edges.HalfEdge.{HalfEdge}
use Rattle.face_builder.specs.Cycle.{is_leader, leaders_from}
use Rattle.face_builder.specs.Faces.{corners_of, led_face, faces_among}
use Rattle.face_builder.specs.Fan.{next_place, nexts_of}
use Rattle.face_builder.specs.HalfEdge.{half_edges_of}
use Rattle.face_builder.specs.MapRules.{compare_sides, first_sides}
use Rattle.plane_geometry.specs.Position.{compare_points}
use Rattle.face_builder.proofs.Departures.{kind_of, depart_once}
use Rattle.face_builder.proofs.Distinct.{distinct_places, half_edges_distinct}
use Rattle.face_builder.proofs.LeastFirst.{later_place, sorted}
use Rattle.face_builder.proofs.Nexts.{GoesOn, member_of_place}
use Rattle.face_builder.proofs.Ordered.{points_total, tied_numbers}
use Rattle.face_builder.proofs.Polygons.{side_of_half, side_number_is, sides_are, goes_round}
use Rattle.face_builder.proofs.Rounds.{IsLeaderAt, leader_is, round_of}
use Rattle.face_builder.proofs.Sides.{from_sorted, runs}

-- not greater by two comparisons, and not tied by both
less_from : (o r p q t : Ordering) → o ≡ ordering_reverse p → r ≡ ordering_reverse q
    → is_lt (ordering_then p (ordering_then q t)) ≡ false → (o ≡ Equal → r ≡ Equal → ⊥)
    → ordering_then o r ≡ Less
less_from Less r p q t e f up apart = refl
less_from Equal Less p q t e f up apart = refl
less_from Equal Equal p q t e f up apart = absurd (apart refl refl)
less_from Equal Greater Equal Less t e f up apart = absurd (true≢false up)
less_from Equal Greater Equal Equal t e f up apart = let z : Greater ≡ Equal = f in cc
less_from Equal Greater Equal Greater t e f up apart = let z : Greater ≡ Less = f in cc
less_from Equal Greater Less q t e f up apart = absurd (true≢false up)
less_from Equal Greater Greater q t e f up apart = let z : Equal ≡ Less = e in cc
less_from Greater r Less q t e f up apart = absurd (true≢false up)
less_from Greater r Equal q t e f up apart = let z : Greater ≡ Equal = e in cc
less_from Greater r Greater q t e f up apart = let z : Greater ≡ Less = e in cc

-- each number of the list is less than those after it
abbrev Rises : List ℕ → Type 0
Rises [] = ⊤
Rises (n ∷ ns) = ((m : ℕ) → Member ns m → n < m) × Rises ns

module _ (p : PatternView) (sheet : is_sheet p.corners ≡ true) (rules : IsPattern p) where
  abbrev hs : List HalfEdge
  hs = half_edges_of p

  abbrev nexts : List ℕ
  nexts = nexts_of hs

  directed : list_all has_direction (sides_of p.corners) ≡ true
  directed = (sheet_turns p.corners sheet).0

  goes : (h : HalfEdge) → Member hs h → (g : HalfEdge) × GoesOn hs h g
  goes = goes_round p directed

  -- the places of half-edges are in the order of their starts, then of their directions
  before : (i j : ℕ) (g h : HalfEdge) → i < j → slice_get hs i ≡ Some g → slice_get hs j ≡ Some h
      → compare_sides (side_of_half g) (side_of_half h) ≡ Less
  before i j g h less at_g at_h =
      let m = member_of_place hs i g at_g in
      let n = member_of_place hs j h at_h in
      let run_g = runs p directed g m in
      let run_h = runs p directed h n in
      let a = dir_number g.dir in
      let b = dir_number h.dir in
      ap₂ (λ x y. ordering_then (compare_points g.start h.start) (nat_cmp x y)) (side_number_is g run_g)
      (side_number_is h run_h)
      ∙ less_from (compare_points g.start h.start) (nat_cmp a b) (compare_points h.start g.start) (nat_cmp b a) _
      (points_total.antisymm g.start h.start) (nat_cmp_total.antisymm a b)
      (later_place hs i j g h (sorted p directed) less at_g at_h)
      (λ start dir.
      let one : g ≡ h =
      depart_once p sheet rules g h (kind_of p sheet rules g (from_sorted p directed g m))
      (kind_of p sheet rules h (from_sorted p directed h n)) run_g run_h (tied_points g.start h.start start)
      (tied_numbers a b dir) in
      let same : i ≡ j =
      distinct_places hs (half_edges_distinct p sheet) i j h (at_g ∙ ap Some one) at_h in
      omega (arith, less, same))

  leaders_rise : (i : ℕ) (rest : List ℕ) → Rises (leaders_from nexts i rest)
  leaders_rise i [] = tt
  leaders_rise i (next ∷ rest) =
      cond_both (is_leader nexts i) (i ∷ leaders_from nexts (i + 1) rest)
      (leaders_from nexts (i + 1) rest) Rises
      (λ e. (
        (λ k m. let l = leader_is nexts (i + 1) rest k m in omega (arith, l.from)),
        leaders_rise (i + 1) rest,
      ))
      (λ e. leaders_rise (i + 1) rest)

  -- the first side of the face that a place leads is the half-edge in this place
  record IsLedSide (l : ℕ) (side : Side) : Type 0 where
    half_edge : HalfEdge
    stands : slice_get hs l ≡ Some half_edge
    side_is : side ≡ side_of_half half_edge

  abbrev sides_led : ℕ → List Side
  sides_led l = take 1 (sides_of (corners_of (led_face hs nexts l)))

  first_led : (l : ℕ) → IsLeaderAt nexts 0 (length hs) l → (s : Side) × (sides_led l ≡ s ∷ []) × IsLedSide l s
  unfolding round_of
  first_led l leader =
      let r = round_of hs goes l leader.below leader.leads in (
        side_of_half r.first,
        ap (λ f. take 1 (sides_of (corners_of f))) r.whole
            ∙ ap (take 1) (sides_are hs goes r.first r.first r.others r.closed),
        record { half_edge = r.first; stands = r.stands; side_is = refl },
      )

  abbrev sides_led_by : List ℕ → List Side
  sides_led_by ls = first_sides (map corners_of (map (led_face hs nexts) ls))

  led_side : (ls : List ℕ) → ((l : ℕ) → Member ls l → IsLeaderAt nexts 0 (length hs) l) → (z : Side)
      → Member (sides_led_by ls) z → (l : ℕ) × Member ls l × IsLedSide l z
  led_side [] all z m = absurd m
  led_side (l ∷ ls) all z m =
      let x = first_led l (all l (inl refl)) in
      elim (member_either (sides_led l) (sides_led_by ls) z m) [
        | inl n ↦
            (elim (subst (λ ss. Member ss z) x.1 n) [
              | inl at ↦ (l, inl refl, subst (IsLedSide l) at x.2)
              | inr none ↦ absurd none
            ])
        | inr n ↦ (let y = led_side ls (λ k o. all k (inr o)) z n in (y.0, inr y.1, y.2))
      ]

  sides_ascend : (ls : List ℕ) → Rises ls → ((l : ℕ) → Member ls l → IsLeaderAt nexts 0 (length hs) l)
      → IsStrictlySortedBy compare_sides (sides_led_by ls)
  sides_ascend [] rises all = sorted_none compare_sides
  sides_ascend (l ∷ ls) rises all =
      let x = first_led l (all l (inl refl)) in
      subst (λ ss. IsStrictlySortedBy compare_sides (ss ++ sides_led_by ls)) (sym x.1)
      (sorted_cons compare_sides x.0 (sides_led_by ls)
      (λ z m.
      let y = led_side ls (λ k o. all k (inr o)) z m in
      ap₂ compare_sides x.2.side_is y.2.side_is
      ∙ before l y.0 x.2.half_edge y.2.half_edge (rises.0 y.0 y.1) x.2.stands y.2.stands)
      (sides_ascend ls rises.1 (λ k o. all k (inr o))))

  pub faces_ascend : IsStrictlySortedBy compare_sides (first_sides (map corners_of (faces_among hs)))
  unfolding faces_among nexts_of
  faces_ascend =
      sides_ascend (leaders_from nexts 0 nexts) (leaders_rise 0 nexts)
      (λ i n. subst (λ k. IsLeaderAt nexts 0 k i) (omega (arith, length-map hs (next_place hs)))
      (leader_is nexts 0 nexts i n))
