-- Opposite lines with nothing between them.
use Rattle.std.proofs.Common.{◌≡◌, ◌↔◌, ℕ, ◌+◌, ◌-◌, ◌<◌, inl, inr, Option, None, Some, IfSome, [], ◌∷◌, refl, sym, ap, subst, ◌∙◌, arith}
use Rattle.std.specs.Prelude.{option_map}
use Rattle.std.specs.Option.{IsSomeAnd}
use Rattle.surd_number.specs.Number.{Number, IsLess, negative_of}
use Rattle.surd_number.specs.RingTool.{◌⊝◌, ◌⊗◌, ⊖◌, v0, v1, v2, v3, v4}
use Rattle.surd_number.specs.NumberLaws.{number_ring}
use Rattle.surd_number.specs.SignLaws.{IsLess-trans}
use Rattle.plane_geometry.specs.Position.{Position, opposite_of, cross_of}
use Rattle.plane_geometry.specs.Direction.{direction_vector}
use Rattle.open_region.specs.declared.Region.{Region}
use Rattle.open_region.specs.declared.edge.Edge.{Edge}
use Rattle.open_region.specs.EdgeView.{line_offset_of}
use Rattle.open_region.specs.Region.{edge_at, turned_offset, edge_offset_of, IsBeyond, IsInRegion, LeaveNothing, AreApart}
use Rattle.open_region.proofs.Edges.{lower_is, first_offset, second_offset}
use Rattle.open_region.proofs.Quotients.{less_as}

-- strictly left of a line opposite to direction n is strictly right of it in direction n
right_of : (n : ℕ) (o : Number) (p : Position) → n < 8
    → IsBeyond (turned_offset (n + 8) o) (n + 8) p ↔ IsLess (cross_of (direction_vector n) p) o
right_of n o p few =
    let d = direction_vector n in
    let back : n + 8 - 8 ≡ n = omega arith in
    let at : direction_vector (n + 8) ≡ opposite_of d =
    lower_is (n + 8) (omega arith) (omega arith) ∙ ap (λ (k : ℕ). opposite_of (direction_vector k)) back in
    subst (λ t. IsLess t (cross_of (direction_vector (n + 8)) p) ↔ IsLess (cross_of d p) o)
    (sym (second_offset (n + 8) o (omega arith)))
    (subst (λ v. IsLess (negative_of o) (cross_of v p) ↔ IsLess (cross_of d p) o) (sym at)
    (less_as (negative_of o) (cross_of (opposite_of d) p) (cross_of d p) o
    (number_ring (d.x ∷ d.y ∷ p.x ∷ p.y ∷ o ∷ []) (⊖ v4 ⊝ (⊖ v0 ⊗ v3 ⊝ ⊖ v1 ⊗ v2))
    ((v0 ⊗ v3 ⊝ v1 ⊗ v2) ⊝ v4) refl)))

not_between : (n : ℕ) (p : Position) → n < 8 → (e f : Option Edge)
    → IsSomeAnd e (λ right. IsSomeAnd f (λ left. IsLess (line_offset_of right) (line_offset_of left) → ⊥))
    → IfSome (option_map (edge_offset_of n) e) (λ o. IsBeyond o n p)
    → IfSome (option_map (edge_offset_of (n + 8)) f) (λ o. IsBeyond o (n + 8) p) → ⊥
not_between n p few None f h a b = absurd h
not_between n p few (Some e) None h a b = absurd h
not_between n p few (Some e) (Some f) h a b =
    h
    (IsLess-trans (line_offset_of e) (cross_of (direction_vector n) p) (line_offset_of f)
    (subst (λ o. IsBeyond o n p) (first_offset n (line_offset_of e) few) a)
    ((right_of n (line_offset_of f) p few).0 b))

nothing_between : (r s : Region) (n : ℕ) (p : Position) → n < 8 → LeaveNothing r s n → IsInRegion p r
    → IsInRegion p s → ⊥
nothing_between r s n p few h inside within =
    not_between n p few (edge_at r n) (edge_at s (n + 8)) h (inside n (omega arith))
    (within (n + 8) (omega arith))

-- no point is in both of two regions that are apart
pub no_common_point : (r s : Region) (p : Position) → AreApart r s → IsInRegion p r → IsInRegion p s → ⊥
no_common_point r s p h inside within =
    elim h.2 [
      | inl lines ↦ nothing_between r s h.0 p h.1 lines inside within
      | inr lines ↦ nothing_between s r h.0 p h.1 lines within inside
    ]
