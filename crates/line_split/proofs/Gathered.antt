-- Points gathered as they come, and then sorted.
use Rattle.std.proofs.Common.{◌≡◌, ℕ, ◌+◌, Bool, true, false, cond, ◌⊎◌, inl, inr, List, [], ◌∷◌, ◌++◌, refl, sym, ap, subst, ◌∙◌, append_assoc}
use Rattle.std.specs.Prelude.{Option, Some, filter}
use Rattle.std.specs.declared.result.Result.{Result}
use Rattle.std.specs.List.Retain.{IsFiltered, DiffersFromLast}
use Rattle.std.specs.List.Sorted.{IsSorted, IsPermutation}
use Rattle.std.specs.declared.cmp.Ordering.{Ordering}
use Rattle.surd_number.specs.Number.{ordering_of}
use Rattle.plane_geometry.specs.declared.Point.{Point}
use Rattle.plane_geometry.specs.declared.Segment.{Segment}
use Rattle.plane_geometry.specs.Position.{position_of, compare_points}
use Rattle.plane_geometry.specs.SegmentView.{stretch_of, lesser_end, greater_end}
use Rattle.plane_geometry.specs.SideLaws.{compare_is}
use Rattle.plane_geometry.specs.StretchLaws.{ends_order}
use Rattle.plane_geometry.specs.Stretch.{Stretch}
use Rattle.crease_model.specs.declared.Piece.{Piece}
use Rattle.line_split.specs.Cuts.{with_piece_cuts, points_or, cuts_from}
use Rattle.line_split.specs.MemberLaws.{Member}
use Rattle.line_split.specs.Points.{by_order, with_point, with_points, in_order, equal_points, is_rising}
use Rattle.line_split.specs.PointLaws.{with_point_new, with_point_old, with_point_either, with_point_rising}
use Rattle.line_split.specs.SortedLaws.{sorted_once}

-- ---- one more

with_points_more : (points vs : List Point) (v : Point) → with_points points (vs ++ v ∷ []) ≡ with_point (with_points points vs) v
with_points_more points [] v = refl
with_points_more points (w ∷ ws) v = with_points_more (with_point points w) ws v

pub in_order_more : (points : List Point) (v : Point) → in_order (points ++ v ∷ []) ≡ with_point (in_order points) v
unfolding in_order
in_order_more points v = with_points_more [] points v

-- ---- which points

with_points_old : (points vs : List Point) (z : Point) → Member points z → Member (with_points points vs) z
with_points_old points [] z m = m
with_points_old points (v ∷ vs) z m = with_points_old (with_point points v) vs z (with_point_old points v z m)

with_points_new : (points vs : List Point) (z : Point) → Member vs z → Member (with_points points vs) z
with_points_new points [] z m = absurd m
with_points_new points (v ∷ vs) z (inl e) = with_points_old (with_point points v) vs z (subst (Member (with_point points v)) e (with_point_new points v))
with_points_new points (v ∷ vs) z (inr m) = with_points_new (with_point points v) vs z m

with_points_either : (points vs : List Point) (z : Point) → Member (with_points points vs) z → Member points z ⊎ Member vs z
with_points_either points [] z m = inl m
with_points_either points (v ∷ vs) z m =
    elim (with_points_either (with_point points v) vs z m) [
      | inl l ↦ elim (with_point_either points v z l) [ inl e ↦ inr (inl e) | inr n ↦ inl n ]
      | inr r ↦ inr (inr r)
    ]

with_points_rising : (points vs : List Point) → is_rising points ≡ true → is_rising (with_points points vs) ≡ true
with_points_rising points [] up = up
with_points_rising points (v ∷ vs) up = with_points_rising (with_point points v) vs (with_point_rising points v up)

-- ---- sorted

pub sorted_is : (points sorted final : List Point) → IsPermutation points sorted → IsSorted compare_points sorted → IsFiltered (DiffersFromLast equal_points) [] sorted final → final ≡ in_order points
unfolding in_order
sorted_is points sorted final moved up kept =
    sorted_once points sorted final moved up kept (with_points [] points) (with_points_rising [] points refl) (λ z m. with_points_new [] points z m)
    (λ z m. elim (with_points_either [] points z m) [ inl n ↦ absurd n | inr n ↦ n ])

-- ---- the ends

pub ends_in_order : (s : Segment) → in_order (lesser_end s ∷ greater_end s ∷ []) ≡ lesser_end s ∷ greater_end s ∷ []
unfolding in_order
ends_in_order s =
    let from = lesser_end s in
    let to = greater_end s in
    ap (λ (o : Ordering). by_order o (to ∷ from ∷ []) (from ∷ []) (from ∷ to ∷ []))
    (compare_is (position_of to) (position_of from) ∙ ap ordering_of (ends_order (stretch_of s) s.stretch))

-- ---- one piece more

more_with : (test : Piece → Bool) (gathered : List Piece) (p : Piece) (rest : List Piece) → gathered ++ filter test (p ∷ []) ++ filter test rest ≡ gathered ++ filter test (p ∷ rest)
more_with test gathered p rest =
    append_assoc gathered (filter test (p ∷ [])) (filter test rest)
    ∙ ap (λ (l : List Piece). gathered ++ l) (elim (test p) as (λ b. cond b (p ∷ []) [] ++ filter test rest ≡ cond b (p ∷ filter test rest) (filter test rest)) [ true ↦ refl | false ↦ refl ])

pub more_pieces : (test : Piece → Bool) (pieces left : List Piece) (p : Piece) (rest before after : List Piece) → left ≡ p ∷ rest → after ≡ before ++ filter test (p ∷ [])
    → before ++ filter test left ≡ filter test pieces → after ++ filter test rest ≡ filter test pieces
more_pieces test pieces left p rest before after split more e =
    ap (λ (l : List Piece). l ++ filter test rest) more ∙ more_with test before p rest
    ∙ ap (λ (l : List Piece). before ++ filter test l) (sym split) ∙ e

pub more_cuts : (s : Stretch) (n : ℕ) (left : List Piece) (p : Piece) (rest : List Piece) (before after : List Point) (all : Result (List Point) ℕ) → left ≡ p ∷ rest → with_piece_cuts s before p.segment ≡ Some after
    → cuts_from s n left before ≡ all → cuts_from s (n + 1) rest after ≡ all
more_cuts s n left p rest before after all split more e =
    sym (ap (λ (o : Option (List Point)). points_or n o (cuts_from s (n + 1) rest)) more)
    ∙ ap (λ (l : List Piece). cuts_from s n l before) (sym split) ∙ e
