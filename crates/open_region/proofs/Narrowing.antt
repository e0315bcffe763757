-- A region with one line replaced by a tighter one, and polygons as the sides that narrow a region.
use Rattle.std.proofs.Common.{◌≡◌, ◌≢◌, ◌↔◌, ℕ, ◌+◌, ◌%◌, ◌<◌, ◌≤◌, Bool, true, false, Option, Some, None, IfSome, MatchOption, List, length, set, get_or, inl, inr, refl, sym, ap, subst, ◌∙◌, arith}
use Rattle.std.specs.Bool.{IsTrue}
use Rattle.std.specs.Prelude.{◌&&◌, unwrap_or}
use Rattle.std.specs.Option.{option_map}
use Rattle.std.proofs.lemmas.Bool.{false≢true, cases_eq, and_parts, and_from}
use Rattle.std.proofs.lemmas.List.{get_or-set_same, get_or-set_other}
use Rattle.surd_number.specs.declared.Sgn.{Sgn}
use Rattle.surd_number.specs.declared.Sgn.TheVariants.{Neg, Zero, Pos}
use Rattle.surd_number.specs.Number.{Number, IsLess}
use Rattle.surd_number.specs.SignLaws.{IsLess-trans, not_less-IsLess_trans}
use Rattle.plane_geometry.specs.Position.{Position, position_of, cross_of}
use Rattle.plane_geometry.specs.Direction.{direction_vector, side_of, is_positive}
use Rattle.plane_geometry.specs.Polygon.{Side, side_direction, is_left_of}
use Rattle.open_region.specs.declared.Region.{Region}
use Rattle.open_region.specs.declared.edge.Edge.{Edge}
use Rattle.open_region.specs.EdgeView.{line_offset_of}
use Rattle.open_region.specs.Region.{edge_at, turned_offset, IsBeyond, IsInRegion}

-- left of the line of an edge in direction n, if there is one
abbrev IsLeftOfEdge : Position → ℕ → Option Edge → Type 0
IsLeftOfEdge q n o = IfSome (option_map (λ e. turned_offset n (line_offset_of e)) o) (λ x. IsBeyond x n q)

module _ (r : Region) (n : ℕ) (edge : Edge) (few : n < 16) where
  abbrev mine : Number
  mine = turned_offset n (line_offset_of edge)

  abbrev replaced : Region
  replaced = record { edges = set r.edges n (Some edge) }

  abbrev IsTold : Bool → Option Edge → Type 0
  IsTold b o = MatchOption o (IsTrue b) (λ old. IsTrue b ↔ IsLess (turned_offset n (line_offset_of old)) mine)

  -- what is left of the tighter line is left of the one before
  older : (q : Position) (o : Option Edge) → IsTold true o → IsBeyond mine n q → IsLeftOfEdge q n o
  older q None h left = tt
  older q (Some old) h left =
      IsLess-trans (turned_offset n (line_offset_of old)) mine (cross_of (direction_vector n) q)
      (h.0 refl) left

  -- and where the one before is as tight, the other way round
  newer : (q : Position) (o : Option Edge) → IsTold false o → IsLeftOfEdge q n o → IsBeyond mine n q
  newer q None h left = absurd (false≢true h)
  newer q (Some old) h left =
      not_less-IsLess_trans mine (turned_offset n (line_offset_of old)) (cross_of (direction_vector n) q)
      (λ less. false≢true (h.1 less)) left

  pub narrowed_in : (b : Bool) → b ≡ true → IsTold b (edge_at r n) → n < length r.edges → (q : Position)
      → IsInRegion q replaced ↔ (IsInRegion q r × IsBeyond mine n q)
  narrowed_in b told h inside q = (to, from)
    where
      here : edge_at replaced n ≡ Some edge
      here = get_or-set_same r.edges n (Some edge) None inside

      there : (k : ℕ) → k ≢ n → edge_at replaced k ≡ edge_at r k
      there k apart = get_or-set_other r.edges n k (Some edge) None apart

      to : IsInRegion q replaced → IsInRegion q r × IsBeyond mine n q
      to g =
          let left : IsBeyond mine n q = subst (IsLeftOfEdge q n) here (g n few) in
          let old : IsLeftOfEdge q n (edge_at r n) = older q (edge_at r n)
          (subst (λ t. IsTold t (edge_at r n)) told h) left in (
            (λ k few_k. elim (cases_eq k n) [
              | inl e ↦ subst (λ i. IsLeftOfEdge q i (edge_at r i)) (sym e) old
              | inr apart ↦ subst (IsLeftOfEdge q k) (there k apart) (g k few_k)
            ]),
            left,
          )

      from : IsInRegion q r × IsBeyond mine n q → IsInRegion q replaced
      from g k few_k =
          elim (cases_eq k n) [
            | inl e ↦ subst (λ i. IsLeftOfEdge q i (edge_at replaced i)) (sym e)
                (subst (IsLeftOfEdge q n) (sym here) g.1)
            | inr apart ↦ subst (IsLeftOfEdge q k) (sym (there k apart)) (g.0 k few_k)
          ]

  pub kept_in : (b : Bool) → b ≡ false → IsTold b (edge_at r n) → (q : Position)
      → IsInRegion q r ↔ (IsInRegion q r × IsBeyond mine n q)
  kept_in b told h q =
      ((λ g. (g, newer q (edge_at r n) (subst (λ t. IsTold t (edge_at r n)) told h) (g n few))), λ g. g.0)

-- ---- sides of polygons

pub left_of_side : (q : Position) (s : Side) (n : ℕ) → side_direction s ≡ Some n
    → (side_of (position_of s.start) n q ≡ Pos) ↔ IsTrue (is_left_of q s)
left_of_side q s n e =
    subst (λ o. (side_of (position_of s.start) n q ≡ Pos)
    ↔ IsTrue (is_positive (side_of (position_of s.start) (unwrap_or o 0) q))) (sym e)
    (ap is_positive, is_pos (side_of (position_of s.start) n q))
  where
    is_pos : (sign : Sgn) → is_positive sign ≡ true → sign ≡ Pos
    is_pos Neg f = absurd (false≢true f)
    is_pos Zero f = absurd (false≢true f)
    is_pos Pos f = refl

-- the first side of those that are left narrows the region
pub next_side : {A B C : Type 0} (b c : Bool) → (A × IsTrue (b && c)) ↔ C → B ↔ (A × IsTrue b)
    → (B × IsTrue c) ↔ C
next_side b c f g = (
  (λ h. let a = g.0 h.0 in f.0 (a.0, and_from b c a.1 h.1)),
  λ k. let a = f.1 k in let both = and_parts b c a.1 in (g.1 (a.0, both.0), both.1),
)
