-- What a sheet knows of its sides: that there is a segment wherever there is a direction, and where points lie.
use Rattle.std.proofs.Common.{◌≡◌, ◌≢◌, ◌↔◌, ℕ, ◌<◌, Bool, true, ◌&&◌, ◌||◌, List, [], ◌∷◌, map, length, None, Result, Ok, Err, refl, sym, ap, ap₂, subst, ◌∙◌, arith}
use Rattle.std.specs.Prelude.{nat_le, unwrap_or, if◌then◌else◌}
use Rattle.std.specs.List.{list_any, list_all}
use Rattle.std.proofs.lemmas.Bool.{both_ways, and_parts}
use Rattle.std.proofs.lemmas.List.Folds.{list_all-map}
use Rattle.std.specs.Result.{result_ok}
use Rattle.surd_number.specs.declared.Sgn.{Sgn}
use Rattle.plane_geometry.specs.declared.Point.{Point}
use Rattle.plane_geometry.specs.declared.Segment.{Segment}
use Rattle.plane_geometry.specs.declared.SegmentFault.{SegmentFault}
use Rattle.plane_geometry.specs.declared.SegmentFault.TheVariants.{ZeroLength, BadDirection}
use Rattle.plane_geometry.specs.Position.{Position, position_of}
use Rattle.plane_geometry.specs.Direction.{side_of, is_along, is_positive, is_negative, opposite_number}
use Rattle.plane_geometry.specs.DirectionLaws.{along_unique, along_back}
use Rattle.plane_geometry.specs.Ends.{GoesAlong, HaveBadDirection}
use Rattle.plane_geometry.specs.Polygon.{sides_of, have_directions}
use Rattle.plane_geometry.specs.Stretch.{Stretch}
use Rattle.crease_model.specs.declared.sides.KnownSide.{KnownSide}
use Rattle.crease_model.specs.declared.Place.TheVariants.{Outside, Border, Inside}
use Rattle.crease_model.specs.Sheet.{place_of, is_on_segment, is_within_side, is_sheet}
use Rattle.crease_model.specs.KnownSide.{SideFacts, facts_of, known_facts, AreSides, place_to, known_holds}

-- in no direction it goes from a point to itself
ends_differ : (p q : Point) (n : ℕ) → n < 16 → GoesAlong n p q → p ≢ q
ends_differ p q n few along same =
    let there = subst (λ (v : Point). is_along n (position_of p) (position_of v) ≡ true) (sym same) along in
    let back = along_back n (position_of p) (position_of p) few ∙ there in
    let number = along_unique (opposite_number n) n (position_of p) (position_of p) (omega arith) few back there in
    absurd (omega (arith, number, few))

-- where there is a direction, there is a segment
pub never_refused : (r : Result Segment SegmentFault) (p q : Point) (n : ℕ) → n < 16 → GoesAlong n p q
    → ((r ≡ Err ZeroLength) ↔ (p ≡ q)) → ((r ≡ Err BadDirection) ↔ HaveBadDirection p q)
    → result_ok r ≡ None → ⊥
never_refused (Ok s) p q n few along zero bad none = absurd (cc)
never_refused (Err ZeroLength) p q n few along zero bad none = ends_differ p q n few along (zero.0 refl)
never_refused (Err BadDirection) p q n few along zero bad none =
    both_ways (is_along n (position_of p) (position_of q)) ((bad.0 refl).1 n few) along

-- ---- tests of sides, by what is known of them

list_any-map : {X Y : Type 0} (p : X → Bool) (h : Y → X) (ys : List Y) → list_any p (map h ys) ≡ list_any (λ y. p (h y)) ys
list_any-map p h [] = refl
list_any-map p h (y ∷ ys) = ap (λ b. p (h y) || b) (list_any-map p h ys)

module _ (corners : List Point) (sides : List KnownSide) (known : AreSides corners sides) where
  any_known : (test : SideFacts → Bool)
      → list_any (λ side. test (known_facts side)) sides ≡ list_any (λ side. test (facts_of side)) (sides_of corners)
  any_known test =
      sym (list_any-map test known_facts sides) ∙ ap (list_any test) known
      ∙ list_any-map test facts_of (sides_of corners)

  all_known : (test : SideFacts → Bool)
      → list_all (λ side. test (known_facts side)) sides ≡ list_all (λ side. test (facts_of side)) (sides_of corners)
  all_known test =
      sym (list_all-map test known_facts sides) ∙ ap (list_all test) known
      ∙ list_all-map test facts_of (sides_of corners)

  abbrev sign_by : Position → SideFacts → Sgn
  sign_by p facts = side_of (position_of facts.start) (unwrap_or facts.direction 0) p

  -- where a point lies to the sides is where it lies to the corners
  pub place_is : (p : Position) → place_to sides p ≡ place_of corners p
  place_is p =
      ap₂ (λ a b. if a then Inside else if b then Outside else Border)
      (all_known (λ facts. is_positive (sign_by p facts))) (any_known (λ facts. is_negative (sign_by p facts)))

  -- a segment is within one of the sides where it is within a side of the corners
  pub within_is : (s : Stretch) → list_any (known_holds s) sides ≡ is_within_side corners s
  within_is s = any_known (λ facts. is_on_segment s.from facts.segment && is_on_segment s.to facts.segment)

-- the sides of a sheet have directions
pub sheet_directions : (corners : List Point) → is_sheet corners ≡ true → have_directions corners ≡ true
unfolding is_sheet
sheet_directions corners e =
    (and_parts (have_directions corners) _ (and_parts (nat_le 3 (length corners) && nat_le (length corners) 16) _ e).1).0
