-- What a list says of two faces by the place of their pair.
use Rattle.std.proofs.Common.{◌≡◌, ℕ, ◌<◌, inl, inr, Bool, true, false, cond, not, List, length, Option, Some, None, refl, sym, ap, ◌∙◌, arith}
use Rattle.std.specs.Prelude.{nat_lt}
use Rattle.std.specs.List.{AllPairs, Contains, slice_get}
use Rattle.std.specs.Option.{option_map}
use Rattle.std.proofs.lemmas.Bool.{ltb-true, lt-ltb, true≢false}
use Rattle.isometry_map.specs.Folded.{FoldedView}
use Rattle.sign_rules.specs.declared.sign.Sign.{Sign}
use Rattle.sign_rules.specs.declared.sign.Sign.TheVariants.{Under}
use Rattle.sign_rules.specs.Signs.{is_over, over_at}
use Rattle.sign_rules.specs.Rule.{is_same}
use Rattle.layer_rules.specs.declared.face_pairs.FacePair.{FacePair}
use Rattle.layer_rules.specs.FacePairs.{Precedes, IsFacePair, IsPairList, ArePair}
use Rattle.layer_rules.specs.Above.{sign_of_pair, above}
use Rattle.layer_rules.specs.FacePlaces.{lesser_first}
use Rattle.layer_rules.proofs.SignPlaces.{pair_of, some_is, none_is_not_some, get_below, get_reads, read_get, sign_at}

-- ---- the pair of two faces

ordered_pair : (shape : FoldedView) (f g : ℕ) (b : Bool) → nat_lt f g ≡ b
    → ArePair shape f g → IsFacePair shape (cond b (pair_of f g) (pair_of g f))
ordered_pair shape f g true e (inl first) = first
ordered_pair shape f g true e (inr second) = absurd (not_less f g e second.ascending)
  where
    not_less : (f g : ℕ) → nat_lt f g ≡ true → g < f → ⊥
    not_less f g e less = absurd (omega (arith, ltb-true f g e, less))
ordered_pair shape f g false e (inl first) = absurd (true≢false (sym (lt-ltb f g first.ascending) ∙ e))
ordered_pair shape f g false e (inr second) = second

are_pair : (shape : FoldedView) (f g : ℕ) (b : Bool) → IsFacePair shape (cond b (pair_of f g) (pair_of g f))
    → ArePair shape f g
are_pair shape f g true is = inl is
are_pair shape f g false is = inr is

module _ (shape : FoldedView) (pairs : List FacePair) (list : IsPairList shape pairs) (f g : ℕ) where
  pub pair_there : ArePair shape f g → Contains pairs (lesser_first f g)
  pair_there are = (list.complete (lesser_first f g)).1 (ordered_pair shape f g (nat_lt f g) refl are)

  pub there_pair : Contains pairs (lesser_first f g) → ArePair shape f g
  there_pair there = are_pair shape f g (nat_lt f g) ((list.complete (lesser_first f g)).0 there)

-- ---- the sign at its place

module _ (signs : List Sign) (p : ℕ) (b : Bool) where
  abbrev seen : Option Sign → Option Bool
  seen o = option_map (λ sign. is_same b (is_over sign)) o

  sees_at : (o : Option Sign) (x : Bool) → slice_get signs p ≡ o → seen o ≡ Some x
      → (p < length signs) × (is_same b (over_at signs p) ≡ x)
  sees_at None x e h = absurd (none_is_not_some x h)
  sees_at (Some s) x e h = (
    get_below signs p s e,
    ap (λ (t : Sign). is_same b (is_over t)) (get_reads signs p s Under e) ∙ some_is (is_same b (is_over s)) x h,
  )

  pub sees : (x : Bool) → seen (slice_get signs p) ≡ Some x
      → (p < length signs) × (is_same b (over_at signs p) ≡ x)
  sees x h = sees_at (slice_get signs p) x refl h

  pub seen_below : p < length signs → seen (slice_get signs p) ≡ Some (is_same b (over_at signs p))
  seen_below below = ap seen (read_get signs p Under below)

above_by : (pairs : List FacePair) (signs : List Sign) (f g p : ℕ) → AllPairs Precedes pairs → (b : Bool)
    → slice_get pairs p ≡ Some (cond b (pair_of f g) (pair_of g f))
    → cond b (option_map is_over (sign_of_pair pairs signs f g))
    (option_map (λ sign. not (is_over sign)) (sign_of_pair pairs signs g f))
    ≡ seen signs p b (slice_get signs p)
above_by pairs signs f g p up true e = ap (option_map is_over) (sign_at pairs signs p f g up e)
above_by pairs signs f g p up false e =
    ap (option_map (λ sign. not (is_over sign))) (sign_at pairs signs p g f up e)

module _ (pairs : List FacePair) (up : AllPairs Precedes pairs) (signs : List Sign) (f g p : ℕ)
    (at : slice_get pairs p ≡ Some (lesser_first f g)) where
  above_seen : above pairs signs f g ≡ seen signs p (nat_lt f g) (slice_get signs p)
  above_seen = above_by pairs signs f g p up (nat_lt f g) at

  -- where the list decides the pair
  pub above_decided : (x : Bool) → above pairs signs f g ≡ Some x
      → (p < length signs) × (is_same (nat_lt f g) (over_at signs p) ≡ x)
  above_decided x h = sees signs p (nat_lt f g) x (sym above_seen ∙ h)

  pub above_read : p < length signs → above pairs signs f g ≡ Some (is_same (nat_lt f g) (over_at signs p))
  above_read below = above_seen ∙ seen_below signs p (nat_lt f g) below
