-- The vertices are the ends of pieces strictly inside the sheet.
use Rattle.std.proofs.Common.{◌≡◌, Bool, true, ◌⊎◌, inl, inr, List, [], ◌∷◌, refl, sym, ap, subst, ◌∙◌}
use Rattle.std.proofs.lemmas.Bool.{cond_both, cond-true}
use Rattle.plane_geometry.specs.declared.Point.{Point}
use Rattle.plane_geometry.specs.Position.{position_of}
use Rattle.plane_geometry.specs.SegmentView.{lesser_end, greater_end}
use Rattle.crease_model.specs.declared.Piece.{Piece}
use Rattle.crease_model.specs.declared.Place.{Place}
use Rattle.crease_model.specs.declared.Place.TheVariants.{Outside, Border, Inside}
use Rattle.crease_model.specs.Sheet.{place_of}
use Rattle.crease_model.specs.View.{PatternView}
use Rattle.line_split.specs.MemberLaws.{Member, member, contained}
use Rattle.line_split.specs.Points.{with_point, is_rising}
use Rattle.line_split.specs.PointLaws.{with_point_new, with_point_old, with_point_either, with_point_rising}
use Rattle.vertex_checks.specs.Vertices.{IsInnerEnd, is_inside, with_inner, with_inner_ends, vertices_from, vertices_of}
use Rattle.crease_model.specs.Rules.{IsEndOf}
use Rattle.vertex_checks.specs.Laws.{VerticesAreInnerEnds}

pub inside_is : (p : Place) → is_inside p ≡ true → p ≡ Inside
inside_is Outside e = absurd (cc)
inside_is Border e = absurd (cc)
inside_is Inside e = refl

module _ (corners : List Point) where
  abbrev test : Point → Bool
  test v = is_inside (place_of corners (position_of v))

  inner_rising : (xs : List Point) (v : Point) → is_rising xs ≡ true
      → is_rising (with_inner corners xs v) ≡ true
  inner_rising xs v up =
      cond_both (test v) (with_point xs v) xs (λ ys. is_rising ys ≡ true) (λ e. with_point_rising xs v up)
      (λ e. up)

  inner_old : (xs : List Point) (v z : Point) → Member xs z → Member (with_inner corners xs v) z
  inner_old xs v z m =
      cond_both (test v) (with_point xs v) xs (λ ys. Member ys z) (λ e. with_point_old xs v z m) (λ e. m)

  inner_new : (xs : List Point) (v : Point) → test v ≡ true → Member (with_inner corners xs v) v
  inner_new xs v e = subst (λ ys. Member ys v) (sym (cond-true (test v) (with_point xs v) xs e))
      (with_point_new xs v)

  inner_either : (xs : List Point) (v z : Point) → Member (with_inner corners xs v) z
      → ((v ≡ z) × (test z ≡ true)) ⊎ Member xs z
  inner_either xs v z =
      cond_both (test v) (with_point xs v) xs (λ ys. Member ys z → ((v ≡ z) × (test z ≡ true)) ⊎ Member xs z)
      (λ e m. elim (with_point_either xs v z m) [ inl f ↦ inl (f, ap test (sym f) ∙ e) | inr n ↦ inr n ])
      (λ e m. inr m)

  -- ---- both ends of a piece

  abbrev first_end : List Point → Piece → List Point
  first_end xs p = with_inner corners xs (lesser_end p.segment)

  ends_old : (xs : List Point) (p : Piece) (z : Point) → Member xs z → Member (with_inner_ends corners xs p) z
  ends_old xs p z m = inner_old (first_end xs p) (greater_end p.segment) z
      (inner_old xs (lesser_end p.segment) z m)

  ends_new : (xs : List Point) (p : Piece) (z : Point) → IsEndOf p z → test z ≡ true
      → Member (with_inner_ends corners xs p) z
  ends_new xs p z (inl e) inner =
      inner_old (first_end xs p) (greater_end p.segment) z
      (subst (λ v. Member (first_end xs p) v) e (inner_new xs (lesser_end p.segment) (ap test e ∙ inner)))
  ends_new xs p z (inr e) inner =
      subst (λ v. Member (with_inner_ends corners xs p) v) e
      (inner_new (first_end xs p) (greater_end p.segment) (ap test e ∙ inner))

  ends_either : (xs : List Point) (p : Piece) (z : Point) → Member (with_inner_ends corners xs p) z
      → (IsEndOf p z × (test z ≡ true)) ⊎ Member xs z
  ends_either xs p z m =
      elim (inner_either (first_end xs p) (greater_end p.segment) z m) [
        | inl h ↦ inl (inr h.0, h.1)
        | inr n ↦ elim (inner_either xs (lesser_end p.segment) z n)
            [ inl h ↦ inl (inl h.0, h.1) | inr k ↦ inr k ]
      ]

  -- ---- of all pieces

  rising : (ps : List Piece) (xs : List Point) → is_rising xs ≡ true
      → is_rising (vertices_from corners ps xs) ≡ true
  rising [] xs up = up
  rising (p ∷ ps) xs up =
      rising ps (with_inner_ends corners xs p)
      (inner_rising (first_end xs p) (greater_end p.segment) (inner_rising xs (lesser_end p.segment) up))

  old : (ps : List Piece) (xs : List Point) (z : Point) → Member xs z → Member (vertices_from corners ps xs) z
  old [] xs z m = m
  old (p ∷ ps) xs z m = old ps (with_inner_ends corners xs p) z (ends_old xs p z m)

  new : (ps : List Piece) (xs : List Point) (p : Piece) (z : Point) → Member ps p → IsEndOf p z → test z ≡ true
      → Member (vertices_from corners ps xs) z
  new [] xs p z m ends inner = absurd m
  new (q ∷ ps) xs p z (inl e) ends inner =
      old ps (with_inner_ends corners xs q) z
      (ends_new xs q z (subst (λ (t : Piece). IsEndOf t z) (sym e) ends) inner)
  new (q ∷ ps) xs p z (inr m) ends inner = new ps (with_inner_ends corners xs q) p z m ends inner

  either : (ps : List Piece) (xs : List Point) (z : Point) → Member (vertices_from corners ps xs) z
      → ((p : Piece) × Member ps p × IsEndOf p z × (test z ≡ true)) ⊎ Member xs z
  either [] xs z m = inr m
  either (p ∷ ps) xs z m =
      elim (either ps (with_inner_ends corners xs p) z m) [
        | inl h ↦ inl (h.0, inr h.1, h.2, h.3)
        | inr n ↦ elim (ends_either xs p z n) [ inl h ↦ inl (p, inl refl, h.0, h.1) | inr k ↦ inr k ]
      ]

from_member : (pattern : PatternView) (v : Point)
    → ((p : Piece) × Member pattern.pieces p × IsEndOf p v
    × (is_inside (place_of pattern.corners (position_of v)) ≡ true)) ⊎ Member [] v → IsInnerEnd pattern v
from_member pattern v (inl h) =
    record { inside = inside_is _ h.3; ends = (h.0, contained pattern.pieces h.0 h.1, h.2) }
from_member pattern v (inr n) = absurd n

pub vertices_are_inner_ends : VerticesAreInnerEnds
vertices_are_inner_ends pattern = (
  rising pattern.corners pattern.pieces [] refl,
  λ v. (
    λ c. from_member pattern v
        (either pattern.corners pattern.pieces [] v (member (vertices_of pattern) v c)),
    λ h. contained (vertices_of pattern) v
        (new pattern.corners pattern.pieces [] h.ends.0 v (member pattern.pieces h.ends.0 h.ends.1) h.ends.2
        (ap is_inside h.inside)),
  ),
)
